-- Laws of rows in a span, rows that are raised, and rows alike.
use Rattle.std.proofs.Common.{◌≡◌, ℕ, ◌+◌, ◌<◌, ◌≤◌, Bool, true, cond, not, eqb, List, [], ◌∷◌, ◌++◌, map, length, get_or, take, Some, sum_by, count_by, filter, sym, refl, ap, ◌∙◌, arith}
use Rattle.std.proofs.lemmas.List.Elements.{filter-append}
use Rattle.std.proofs.lemmas.List.Filters.{length-filter_both}
use Rattle.std.proofs.lemmas.List.{map-append, map_more}
use Rattle.std.proofs.lemmas.List.Sums.{sum_by-cons, sum_by-append, length-filter}
use Rattle.std.proofs.lemmas.Bool.{eqb-true, eq-eqb, and_parts, and_from}
use Rattle.std.proofs.lemmas.Bool.Decides.{nat_tests}
use Rattle.rows.specs.declared.row.Row.{Row}
use Rattle.rows.specs.declared.span.Span.{Span}
use Rattle.rows.specs.Rows.{within, outside, raised_row, raise_within, raised, many_within, same_row, times, Alike}

-- lists that have each element as often have the same sum of whatever is counted of their elements
module _ {A : Type 0} (same : A → A → Bool) (sound : (a b : A) → same a b ≡ true → a ≡ b) (self : (a : A) → same a a ≡ true) where
  abbrev without : A → List A → List A
  without a [] = []
  without a (x ∷ xs) = cond (same a x) xs (x ∷ without a xs)

  sum_without : (f : A → ℕ) (a : A) (xs : List A) → 1 ≤ count_by (same a) xs → sum_by f xs ≡ f a + sum_by f (without a xs)
  sum_without f a [] h = omega arith
  sum_without f a (x ∷ xs) h =
      let ih : 1 ≤ count_by (same a) xs → sum_by f xs ≡ f a + sum_by f (without a xs) = sum_without f a xs in
      let found = sound a x in
      let count = sum_by-cons (λ y. cond (same a y) 1 0) x xs in
      let all = sum_by-cons f x xs in
      let rest = sum_by-cons f x (without a xs) in
      grind (arith, nat_tests)

  pub sum_same : (f : A → ℕ) (xs ys : List A) → ((a : A) → count_by (same a) xs ≡ count_by (same a) ys) → sum_by f xs ≡ sum_by f ys
  sum_same f [] [] e = refl
  sum_same f [] (y ∷ ys) e =
      let one = ap (λ b. cond {A = ℕ} b 1 0) (self y) in
      omega (arith, one, e y, sum_by-cons (λ z. cond (same y z) 1 0) y ys)
  sum_same f (x ∷ xs) ys e =
      let one = ap (λ b. cond {A = ℕ} b 1 0) (self x) in
      let h : 1 ≤ count_by (same x) ys = omega (arith, one, e x, sum_by-cons (λ z. cond (same x z) 1 0) x xs) in
      let ih = sum_same f xs (without x ys) (λ a. omega (arith, e a, sum_by-cons (λ z. cond (same a z) 1 0) x xs, sum_without (λ z. cond (same a z) 1 0) x ys h)) in
      omega (arith, ih, sum_by-cons f x xs, sum_without f x ys h)

pub same_row_sound : (a b : Row) → same_row a b ≡ true → a ≡ b
same_row_sound a b e =
    let p = and_parts (eqb a.key b.key) (eqb a.amount b.amount) e in
    let k : a.key ≡ b.key = eqb-true _ _ p.0 in
    let m : a.amount ≡ b.amount = eqb-true _ _ p.1 in
    λ i. record { key = k i; amount = m i }

pub same_row_self : (a : Row) → same_row a a ≡ true
same_row_self a = and_from _ _ (eq-eqb a.key a.key refl) (eq-eqb a.amount a.amount refl)

-- over lists put together
pub times_append : (r : Row) (xs ys : List Row) → times r (xs ++ ys) ≡ times r xs + times r ys
unfolding times
times_append r xs ys = sum_by-append _ xs ys

pub outside_append : (s : Span) (xs ys : List Row) → outside s (xs ++ ys) ≡ outside s xs ++ outside s ys
unfolding outside
outside_append s xs ys = filter-append _ xs ys

pub raised_append : (s : Span) (n : ℕ) (xs ys : List Row) → raised s n (xs ++ ys) ≡ raised s n xs ++ raised s n ys
unfolding raised
raised_append s n xs ys = map-append _ xs ys

pub many_append : (s : Span) (xs ys : List Row) → many_within s (xs ++ ys) ≡ many_within s xs + many_within s ys
unfolding many_within
many_append s xs ys = sum_by-append _ xs ys

-- counts add up
pub many_and_outside : (s : Span) (xs : List Row) → many_within s xs + length (outside s xs) ≡ length xs
unfolding many_within outside
many_and_outside s xs = omega (arith, length-filter (within s) xs, length-filter_both (within s) (λ r. not (within s r)) (λ r. refl) xs)

pub many_le_length : (s : Span) (xs : List Row) → many_within s xs ≤ length xs
many_le_length s xs = omega (arith, many_and_outside s xs)

-- no row in the span: nothing happens
pub outside_none : (s : Span) (xs : List Row) → many_within s xs ≡ 0 → outside s xs ≡ xs
unfolding many_within outside
outside_none s [] e = refl
outside_none s (x ∷ xs) e =
    let ih : count_by (within s) xs ≡ 0 → outside s xs ≡ xs = outside_none s xs in
    let count = sum_by-cons (λ r. cond (within s r) 1 0) x xs in
    grind (arith, nat_tests)

pub raised_none : (s : Span) (n : ℕ) (xs : List Row) → many_within s xs ≡ 0 → raised s n xs ≡ xs
unfolding many_within raised
raised_none s n [] e = refl
raised_none s n (x ∷ xs) e =
    let ih : count_by (within s) xs ≡ 0 → raised s n xs ≡ xs = raised_none s n xs in
    let count = sum_by-cons (λ r. cond (within s r) 1 0) x xs in
    grind (arith, nat_tests)

-- alike is an equivalence, and goes through lists put together
pub alike_same : (xs ys : List Row) → xs ≡ ys → Alike xs ys
unfolding Alike
alike_same xs ys e r = ap (times r) e

pub alike_refl : (xs : List Row) → Alike xs xs
alike_refl xs = alike_same xs xs refl

pub alike_sym : (xs ys : List Row) → Alike xs ys → Alike ys xs
unfolding Alike
alike_sym xs ys h r = sym (h r)

pub alike_trans : (xs ys zs : List Row) → Alike xs ys → Alike ys zs → Alike xs zs
unfolding Alike
alike_trans xs ys zs h k r = h r ∙ k r

pub alike_append : (xs xs' ys ys' : List Row) → Alike xs xs' → Alike ys ys' → Alike (xs ++ ys) (xs' ++ ys')
unfolding Alike
alike_append xs xs' ys ys' h k r = omega (arith, times_append r xs ys, times_append r xs' ys', h r, k r)

pub alike_swap : (xs ys : List Row) → Alike (xs ++ ys) (ys ++ xs)
unfolding Alike
alike_swap xs ys r = omega (arith, times_append r xs ys, times_append r ys xs)

-- whatever is counted of each row comes to the same for rows alike
pub sum_alike : (f : Row → ℕ) (xs ys : List Row) → Alike xs ys → sum_by f xs ≡ sum_by f ys
unfolding Alike times
sum_alike f xs ys h = sum_same same_row same_row_sound same_row_self f xs ys h

times_outside : (r : Row) (s : Span) (xs : List Row) → times r (outside s xs) ≡ sum_by (λ x. cond (within s x) 0 (cond (same_row r x) 1 0)) xs
unfolding times outside
times_outside r s [] = refl
times_outside r s (x ∷ xs) =
    let ih = times_outside r s xs in
    let all = sum_by-cons (λ y. cond (within s y) 0 (cond (same_row r y) 1 0)) x xs in
    let kept = sum_by-cons (λ y. cond (same_row r y) 1 0) x (filter (λ y. not (within s y)) xs) in
    grind (arith, nat_tests)

times_raised : (r : Row) (s : Span) (n : ℕ) (xs : List Row) → times r (raised s n xs) ≡ sum_by (λ x. cond (same_row r (raise_within s n x)) 1 0) xs
unfolding times raised
times_raised r s n [] = refl
times_raised r s n (x ∷ xs) =
    omega (
      arith,
      times_raised r s n xs,
      sum_by-cons (λ y. cond (same_row r (raise_within s n y)) 1 0) x xs,
      sum_by-cons (λ y. cond (same_row r y) 1 0) (raise_within s n x) (map (raise_within s n) xs),
    )

pub outside_alike : (s : Span) (xs ys : List Row) → Alike xs ys → Alike (outside s xs) (outside s ys)
unfolding Alike
outside_alike s xs ys h r = times_outside r s xs ∙ sum_alike _ xs ys h ∙ sym (times_outside r s ys)

pub raised_alike : (s : Span) (n : ℕ) (xs ys : List Row) → Alike xs ys → Alike (raised s n xs) (raised s n ys)
unfolding Alike
raised_alike s n xs ys h r = times_raised r s n xs ∙ sum_alike _ xs ys h ∙ sym (times_raised r s n ys)

pub many_alike : (s : Span) (xs ys : List Row) → Alike xs ys → many_within s xs ≡ many_within s ys
unfolding many_within
many_alike s xs ys h = sum_alike _ xs ys h

-- one row more, as a loop over rows meets it
module _ (s : Span) (xs : List Row) (i : ℕ) (d : Row) (h : i < length xs) where
  pub raised_more : (n : ℕ) (r : Row) → Some r ≡ raised_row s n (get_or xs i d) → raised s n (take (i + 1) xs) ≡ raised s n (take i xs) ++ r ∷ []
  unfolding raised
  raised_more n r e =
      let x = get_or xs i d in
      let same : raise_within s n (get_or xs i d) ≡ r = grind (arith, nat_tests) in
      map_more (raise_within s n) xs i d h ∙ ap (λ y. raised s n (take i xs) ++ y ∷ []) same
