-- What a span finds in one file, by the count of its rows inside.
use Rattle.std.proofs.Common.{◌≡◌, ℕ, ◌-◌, ◌<◌, ◌≤◌, cond, [], ◌∷◌, length, sym, ap, ◌∙◌, arith}
use Rattle.std.proofs.lemmas.Bool.{lt-ltb, le-ltb}
use Rattle.rows.specs.declared.span.Span.{Span}
use Rattle.rows.specs.Rows.{outside, many_within}
use Rattle.rows.proofs.Rows.{many_and_outside}
use Rattle.store.specs.declared.files.Stored.{Stored}
use Rattle.store.specs.Putting.{Files}
use Rattle.versions.specs.declared.preview.Preview.{Preview}
use Rattle.versions.specs.FilesHeld.{stored_rows}
use Rattle.versions.specs.Previews.{preview_of}

module _ (s : Files) (span : Span) (x : Stored) (inside : ℕ) (e : inside ≡ many_within span (stored_rows s x)) where
  abbrev told : ℕ → ℕ → Preview
  told a b = record { file = x; inside = a; stays = b }

  pub preview_yes : length (stored_rows s x) ≡ x.head.count → 0 < inside → told inside (x.head.count - inside) ∷ [] ≡ preview_of s span x
  preview_yes l h =
      let rs = stored_rows s x in
      let stays : x.head.count - inside ≡ length (outside span rs) = omega (arith, e, l, many_and_outside span rs) in
      ap (λ a. told a (x.head.count - inside) ∷ []) e ∙ ap (λ b. told (many_within span rs) b ∷ []) stays
      ∙ sym (ap (λ b. cond b (told (many_within span rs) (length (outside span rs)) ∷ []) []) (lt-ltb 0 (many_within span rs) (omega (arith, e, h))))

  pub preview_no : inside ≤ 0 → [] ≡ preview_of s span x
  preview_no h =
      let rs = stored_rows s x in
      sym (ap (λ b. cond b (told (many_within span rs) (length (outside span rs)) ∷ []) []) (le-ltb 0 (many_within span rs) (omega (arith, e, h))))
