-- The laws of the smallest and the largest key.
use Rattle.std.proofs.Common.{◌≡◌, ℕ, ◌+◌, ◌<◌, ◌≤◌, min, max, true, ltb, leb, List, [], ◌∷◌, ◌++◌, length, get_or, take, refl, ap, ◌∙◌, arith}
use Rattle.std.proofs.lemmas.Bool.{and_parts, and_from, le-leb, leb-true, ltb-true}
use Rattle.std.proofs.lemmas.List.{take_more}
use Rattle.rows.specs.declared.row.Row.{Row}
use Rattle.rows.specs.declared.span.Span.{Span}
use Rattle.rows.specs.Numbers.{key_limit}
use Rattle.rows.specs.Rows.{amount_limit}
use Rattle.rows.specs.Spans.{contains_key}
use Rattle.codec.specs.Bounds.{every, is_key}
use Rattle.codec.specs.FileLaws.{KeysAreTheEnds}
use Rattle.codec.specs.Files.{row_fits}
use Rattle.codec.specs.Keys.{widened, keys_of}

widened_swap : (a b : ℕ) (s : Span) → widened a (widened b s) ≡ widened b (widened a s)
widened_swap a b s =
    let from : min a (min b s.from) ≡ min b (min a s.from) = omega arith in
    let to : max a (max b s.to) ≡ max b (max a s.to) = omega arith in
    λ i. record { from = from i; to = to i }

-- one row more at the end
pub keys_push : (rs : List Row) (r : Row) → keys_of (rs ++ r ∷ []) ≡ widened r.key (keys_of rs)
keys_push [] r = refl
keys_push (x ∷ rs) r = ap (widened x.key) (keys_push rs r) ∙ widened_swap x.key r.key (keys_of rs)

pub keys_more : (rs : List Row) (i : ℕ) (d : Row) → i < length rs → keys_of (take (i + 1) rs) ≡ widened (get_or rs i d).key (keys_of (take i rs))
keys_more rs i d h = ap keys_of (take_more rs i d h) ∙ keys_push (take i rs) (get_or rs i d)

-- every key lies between the two
in_wider : (rs : List Row) (s t : Span) → t.from ≤ s.from → s.to ≤ t.to → every (λ r. contains_key s r.key) rs ≡ true → every (λ r. contains_key t r.key) rs ≡ true
in_wider [] s t a b e = refl
in_wider (r ∷ rs) s t a b e =
    let p = and_parts (contains_key s r.key) (every (λ x. contains_key s x.key) rs) e in
    let q = and_parts (leb s.from r.key) (leb r.key s.to) p.0 in
    let l = leb-true s.from r.key q.0 in
    let h = leb-true r.key s.to q.1 in
    and_from _ _ (and_from _ _ (le-leb t.from r.key (omega arith)) (le-leb r.key t.to (omega arith))) (in_wider rs s t a b p.1)

pub keys_hold : (rs : List Row) → every (λ r. contains_key (keys_of rs) r.key) rs ≡ true
keys_hold [] = refl
keys_hold (r ∷ rs) =
    let s = keys_of rs in
    let t = widened r.key (keys_of rs) in
    and_from _ _ (and_from _ _ (le-leb (min r.key (keys_of rs).from) r.key (omega arith)) (le-leb r.key (max r.key (keys_of rs).to) (omega arith)))
    (in_wider rs s t (omega arith) (omega arith) (keys_hold rs))

-- no smaller span has them all
tight : (rs : List Row) (s : Span) → s.from ≤ 4294967295 → every (λ r. contains_key s r.key) rs ≡ true → (s.from ≤ (keys_of rs).from) × ((keys_of rs).to ≤ s.to)
tight [] s h e = (h, omega arith)
tight (r ∷ rs) s h e =
    let p = and_parts (contains_key s r.key) (every (λ x. contains_key s x.key) rs) e in
    let q = and_parts (leb s.from r.key) (leb r.key s.to) p.0 in
    let l = leb-true s.from r.key q.0 in
    let u = leb-true r.key s.to q.1 in
    let ih = tight rs s h p.1 in
    (omega (arith, ih.0), omega (arith, ih.1))

pub keys_are_the_ends : KeysAreTheEnds
keys_are_the_ends rs = (keys_hold rs, small rs)
  where
    small : (xs : List Row) (s : Span) → 0 < length xs → every row_fits xs ≡ true → every (λ r. contains_key s r.key) xs ≡ true → (s.from ≤ (keys_of xs).from) × ((keys_of xs).to ≤ s.to)
    small [] s h f e = absurd (omega arith)
    small (r ∷ xs) s h f e =
        let p = and_parts (contains_key s r.key) (every (λ x. contains_key s x.key) xs) e in
        let q = and_parts (leb s.from r.key) (leb r.key s.to) p.0 in
        let l = leb-true s.from r.key q.0 in
        let a = and_parts (row_fits r) (every row_fits xs) f in
        let b = and_parts (is_key r.key) (ltb r.amount amount_limit) a.0 in
        let k = ltb-true r.key key_limit b.0 in
        tight (r ∷ xs) s (omega arith) e
