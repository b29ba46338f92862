-- What the smallest and the largest key tell.
use Rattle.std.proofs.Common.{◌≡◌, true, false, cond, List, [], ◌∷◌, length, refl, arith}
use Rattle.std.proofs.lemmas.List.Sums.{sum_by-cons}
use Rattle.std.proofs.lemmas.Bool.Decides.{nat_tests}
use Rattle.rows.specs.declared.row.Row.{Row}
use Rattle.rows.specs.declared.span.Span.{Span}
use Rattle.rows.specs.Rows.{within, many_within}
use Rattle.rows.specs.Spans.{contains_key, overlap}
use Rattle.codec.specs.Bounds.{every}
use Rattle.codec.specs.Keys.{keys_of}
use Rattle.codec.proofs.KeyLaws.{keys_hold}
use Rattle.versions.specs.VersionLaws.{KeyRangesTell}

-- rows that have their keys in a range, and a span that is apart from it, or has both its ends
module _ (s range : Span) where
  none_apart : (rs : List Row) → every (λ r. contains_key range r.key) rs ≡ true → overlap s range ≡ false → many_within s rs ≡ 0
  unfolding many_within
  none_apart [] e h = refl
  none_apart (r ∷ rs) e h =
      let ih : every (λ x. contains_key range x.key) rs ≡ true → many_within s rs ≡ 0 = λ q. none_apart rs q h in
      let count = sum_by-cons (λ x. cond (within s x) 1 0) r rs in
      grind (arith, nat_tests)

  all_within : (rs : List Row) → every (λ r. contains_key range r.key) rs ≡ true → contains_key s range.from ≡ true → contains_key s range.to ≡ true
      → many_within s rs ≡ length rs
  unfolding many_within
  all_within [] e a b = refl
  all_within (r ∷ rs) e a b =
      let ih : every (λ x. contains_key range x.key) rs ≡ true → many_within s rs ≡ length rs = λ q. all_within rs q a b in
      let count = sum_by-cons (λ x. cond (within s x) 1 0) r rs in
      grind (arith, nat_tests)

pub key_ranges_tell : KeyRangesTell
key_ranges_tell s rs = (none_apart s (keys_of rs) rs (keys_hold rs), all_within s (keys_of rs) rs (keys_hold rs))
