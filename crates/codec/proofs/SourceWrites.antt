-- The sources while the target is written: they stay as they are, and their rows are written one source behind the other.
use Rattle.std.proofs.Common.{◌≡◌, ℕ, ◌+◌, ◌<◌, ◌≤◌, Bool, true, false, cond, ◌&&◌, leb, ◌⊎◌, List, [], ◌∷◌, ◌++◌, length, get_or, drop, is_some, Some, None, Option, sym, refl, ap, ◌∙◌, inl, inr, arith}
use Rattle.std.proofs.lemmas.List.{at_drop_more}
use Rattle.std.proofs.lemmas.Bool.{and_parts, and_from, leb-true, or_cases}
use Rattle.rows.specs.declared.row.Row.{Row}
use Rattle.codec.specs.declared.rewrite.Part.{Part}
use Rattle.codec.specs.declared.rewrite.Rewrite.{Rewrite}
use Rattle.codec.specs.Bounds.{every}
use Rattle.codec.specs.Files.{file_in, rows_from}
use Rattle.codec.specs.Keys.{keys_of}
use Rattle.codec.specs.Rewrites.{rewritten, lies_in, apart, part_in, rows_in, is_source, source_rows, widened_by}
use Rattle.codec.specs.Words.{put_at}
use Rattle.codec.proofs.BoundLaws.{every_at}
use Rattle.codec.proofs.KeyLaws.{keys_push}
use Rattle.codec.proofs.PartLaws.{read_apart}
use Rattle.codec.proofs.RewriteLaws.{rewritten_append, rows_from_there}
use Rattle.codec.proofs.SourceLaws.{part_there, part_absent}
use Rattle.codec.proofs.WordLaws.{length_put_at}

-- a source, fact by fact
record Source (xs : List ℕ) (t p : Part) : Type 0 where
  pub inside : p.start + p.length ≤ length xs
  pub away : (p.start + p.length ≤ t.start) ⊎ (t.start + t.length ≤ p.start)

source : (xs : List ℕ) (t p : Part) → is_source xs t p ≡ true → Source xs t p
source xs t p e =
    let a = and_parts (lies_in p (length xs)) _ e in
    let b = and_parts (apart p t) _ a.1 in
    record { inside = leb-true _ _ a.0; away = go (or_cases (leb (p.start + p.length) t.start) (leb (t.start + t.length) p.start) b.0) }
  where
    go : (leb (p.start + p.length) t.start ≡ true) ⊎ (leb (t.start + t.length) p.start ≡ true) → (p.start + p.length ≤ t.start) ⊎ (t.start + t.length ≤ p.start)
    go (inl h) = inl (leb-true _ _ h)
    go (inr h) = inr (leb-true _ _ h)

-- a write inside the target leaves the sources
module _ (B : List ℕ) (t : Part) (at : ℕ) (ys cur : List ℕ) (low : t.start ≤ at) (high : at + length ys ≤ t.start + t.length) (inside : t.start + t.length ≤ length B) (e : cur ≡ put_at at ys B) where
  pub same_length : length cur ≡ length B
  same_length = ap length e ∙ length_put_at at ys B (omega arith)

  pub same_part : (p : Part) → is_source B t p ≡ true → part_in p cur ≡ part_in p B
  same_part p v = ap (part_in p) e ∙ read_apart p.start p.length t.start t.length at ys B (source B t p v).away low high (omega arith)

  pub same_source : (p : Part) → is_source B t p ≡ true → is_source cur t p ≡ true
  same_source p v =
      ap (λ n. lies_in p n && (apart p t && is_some (file_in (part_in p cur)))) same_length ∙ ap (λ l. lies_in p (length B) && (apart p t && is_some (file_in l))) (same_part p v) ∙ v

  pub same_sources : (ps : List Part) → every (is_source B t) ps ≡ true → (every (is_source cur t) ps ≡ true) × (source_rows cur ps ≡ source_rows B ps)
  same_sources [] v = (refl, refl)
  same_sources (p ∷ ps) v =
      let a = and_parts (is_source B t p) (every (is_source B t) ps) v in
      let r = same_sources ps a.1 in
      (and_from _ _ (same_source p a.0) r.0, ap (λ l. rows_in l ++ source_rows cur ps) (same_part p a.0) ∙ ap (λ l. rows_in (part_in p B) ++ l) r.1)

keys_append : (rs ss : List Row) → keys_of (rs ++ ss) ≡ widened_by (keys_of rs) ss
keys_append rs [] = ap keys_of (append_none rs)
  where
    append_none : (l : List Row) → l ++ [] ≡ l
    append_none [] = refl
    append_none (x ∷ l) = ap (λ z. x ∷ z) (append_none l)
keys_append rs (s ∷ ss) = ap keys_of (sym (Rattle.std.proofs.lemmas.List.append_assoc rs (s ∷ []) ss)) ∙ keys_append (rs ++ s ∷ []) ss ∙ ap (λ k. widened_by k ss) (keys_push rs s)

pub keys_widened : (rs : List Row) → keys_of rs ≡ widened_by (keys_of []) rs
keys_widened rs = keys_append [] rs

-- one source more
module _ (w : Rewrite) (xs : List ℕ) (t : Part) (ps : List Part) (valid : every (is_source xs t) ps ≡ true) (i : ℕ) (d : Part) (h : i < length ps) where
  there : is_source xs t (get_or ps i d) ≡ true
  there = every_at (is_source xs t) ps i d valid h

  pub source_not_there : ◌≡◌ {A = Option (List ℕ)} None (cond (lies_in (get_or ps i d) (length xs) && apart (get_or ps i d) t) (Some (part_in (get_or ps i d) xs)) None) → ⊥
  source_not_there e = let z : ◌≡◌ {A = Bool} false true = sym (part_absent xs t (get_or ps i d) e) ∙ there in absurd (let y : ◌≡◌ {A = ℕ} 0 1 = cc in omega arith)

  pub source_step : (bs : List ℕ) → Some bs ≡ cond (lies_in (get_or ps i d) (length xs) && apart (get_or ps i d) t) (Some (part_in (get_or ps i d) xs)) None
      → rewritten w (source_rows xs (drop i ps)) ≡ rewritten w (rows_from bs) ++ rewritten w (source_rows xs (drop (i + 1) ps))
  source_step bs e =
      let q = part_there xs t (get_or ps i d) bs e in
      let rows : rows_from bs ≡ rows_in (part_in (get_or ps i d) xs) = ap rows_from q.1 ∙ rows_from_there (part_in (get_or ps i d) xs) (sym q.0 ∙ there) in
      ap (rewritten w) (at_drop_more (source_rows xs) ps i d h ∙ ap (λ l. l ++ source_rows xs (drop (i + 1) ps)) (sym rows))
      ∙ rewritten_append w (rows_from bs) (source_rows xs (drop (i + 1) ps))
