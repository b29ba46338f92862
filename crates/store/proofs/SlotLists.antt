-- What is found, counted and listed of the slots of a directory, as of so many numbers of it.
use Rattle.std.proofs.Common.{◌≡◌, ℕ, zero, suc, ◌+◌, ◌-◌, ◌*◌, ◌<◌, ◌≤◌, cond, eqb, ltb, List, [], ◌∷◌, ◌++◌, get_or, take, drop, Some, map, filter, count_by, sym, refl, ap, ◌∙◌, add-one, arith}
use Rattle.std.proofs.lemmas.Bool.{lt-ltb, ne_eqb}
use Rattle.std.proofs.lemmas.List.{drop-drop, get_or-drop, get_or-take, map-append}
use Rattle.std.proofs.lemmas.List.Elements.{filter-append}
use Rattle.std.proofs.lemmas.List.Sums.{sum_by-append}
use Rattle.std.proofs.lemmas.Iterator.Adapters.{position_from-zero}
use Rattle.std.specs.List.{position, position_from}
use Rattle.std.specs.Simd.{first_chunks}
use Rattle.store.specs.Slots.{slots_in, is_marked, mark_at, length_at, first_from, slot_with, free_below, numbers_below}

-- the first chunks of two numbers
pub slots_of_chunks : (k n : ℕ) (xs : List ℕ) → k ≤ n → take k (first_chunks 2 n xs) ≡ slots_in k xs
slots_of_chunks zero n xs h = refl
slots_of_chunks (suc k) zero xs h = absurd (omega (arith, h))
slots_of_chunks (suc k) (suc n) xs h = ap (λ ys. take 2 xs ∷ ys) (slots_of_chunks k n (drop 2 xs) (omega (arith, h)))

-- the mark of a slot
mark_here : (xs : List ℕ) (i : ℕ) → get_or (take 2 (drop (2 * i) xs)) 0 0 ≡ mark_at xs i
mark_here xs i = let e : 2 * i + 0 ≡ 2 * i = omega arith in get_or-take 2 (drop (2 * i) xs) 0 0 (omega arith) ∙ get_or-drop (2 * i) xs 0 0 ∙ ap (λ k. get_or xs k 0) e

next_slot_at : (xs : List ℕ) (i : ℕ) → drop 2 (drop (2 * i) xs) ≡ drop (2 * (i + 1)) xs
next_slot_at xs i = let e : 2 * i + 2 ≡ 2 * (i + 1) = omega arith in drop-drop 2 (2 * i) xs ∙ ap (λ k. drop k xs) e

-- a slot by its index
pub slot_at : (n i j : ℕ) (xs : List ℕ) (d : List ℕ) → i < n → get_or (slots_in n (drop (2 * j) xs)) i d ≡ take 2 (drop (2 * (j + i)) xs)
slot_at zero i j xs d h = absurd (omega (arith, h))
slot_at (suc n) zero j xs d h = let e : j ≡ j + 0 = omega arith in ap (λ k. take 2 (drop (2 * k) xs)) e
slot_at (suc n) (suc i) j xs d h =
    let e : j + 1 + i ≡ j + suc i = omega arith in
    ap (λ l. get_or (slots_in n l) i d) (next_slot_at xs j) ∙ slot_at n i (j + 1) xs d (omega (arith, h)) ∙ ap (λ k. take 2 (drop (2 * k) xs)) e

-- one slot more, behind the others
slots_more : (n i : ℕ) (xs : List ℕ) → slots_in (n + 1) (drop (2 * i) xs) ≡ slots_in n (drop (2 * i) xs) ++ take 2 (drop (2 * (n + i)) xs) ∷ []
slots_more zero i xs = let e : i ≡ 0 + i = omega arith in ap (λ k. take 2 (drop (2 * k) xs) ∷ []) e
slots_more (suc n) i xs =
    let e : n + (i + 1) ≡ suc n + i = omega arith in
    let m : suc n + 1 ≡ suc (n + 1) = omega arith in
    ap (λ k. slots_in k (drop (2 * i) xs)) m
    ∙ ap (λ ys. take 2 (drop (2 * i) xs) ∷ ys)
    (ap (slots_in (n + 1)) (next_slot_at xs i) ∙ slots_more n (i + 1) xs
    ∙ ap (λ l. slots_in n l ++ take 2 (drop (2 * (n + (i + 1))) xs) ∷ []) (sym (next_slot_at xs i))
    ∙ ap (λ k. slots_in n (drop 2 (drop (2 * i) xs)) ++ take 2 (drop (2 * k) xs) ∷ []) e)

module _ (xs : List ℕ) where
  more_behind : (n : ℕ) → slots_in (suc n) xs ≡ slots_in n xs ++ take 2 (drop (2 * n) xs) ∷ []
  more_behind n = let e : n + 0 ≡ n = omega arith in ap (λ k. slots_in k xs) (sym (add-one n)) ∙ slots_more n 0 xs ∙ ap (λ k. slots_in n xs ++ take 2 (drop (2 * k) xs) ∷ []) e

  -- the two numbers of a slot
  module _ (n i : ℕ) (h : i < n) (d : List ℕ) where
    pub mark_is : get_or (get_or (slots_in n xs) i d) 0 0 ≡ mark_at xs i
    mark_is = let e : 0 + i ≡ i = omega arith in ap (λ l. get_or l 0 0) (slot_at n i 0 xs d h) ∙ mark_here xs (0 + i) ∙ ap (mark_at xs) e

    pub length_is : get_or (get_or (slots_in n xs) i d) 1 0 ≡ length_at xs i
    length_is =
        let e : 2 * (0 + i) + 1 ≡ 1 + 2 * i = omega arith in
        ap (λ l. get_or l 1 0) (slot_at n i 0 xs d h) ∙ get_or-take 2 (drop (2 * (0 + i)) xs) 1 0 (omega arith) ∙ get_or-drop (2 * (0 + i)) xs 1 0 ∙ ap (λ k. get_or xs k 0) e

  -- the first slot with a mark
  position_here : (x n i : ℕ) → position_from (is_marked x) i (slots_in n (drop (2 * i) xs)) ≡ first_from (λ j. eqb (mark_at xs j) x) n i
  position_here x zero i = refl
  position_here x (suc n) i =
      ap (λ m. cond (eqb m x) (Some i) (position_from (is_marked x) (i + 1) (slots_in n (drop 2 (drop (2 * i) xs))))) (mark_here xs i)
      ∙ ap (λ l. cond (eqb (mark_at xs i) x) (Some i) (position_from (is_marked x) (i + 1) (slots_in n l))) (next_slot_at xs i)
      ∙ ap (cond (eqb (mark_at xs i) x) (Some i)) (position_here x n (i + 1))

  pub position_is : (x n : ℕ) → position (is_marked x) (slots_in n xs) ≡ slot_with xs n x
  unfolding slot_with
  position_is x n = position_from-zero (is_marked x) (slots_in n xs) ∙ position_here x n 0

  -- how many of them are free
  pub count_is : (n : ℕ) → count_by (is_marked 0) (slots_in n xs) ≡ free_below xs n
  count_is zero = refl
  count_is (suc n) =
      ap (count_by (is_marked 0)) (more_behind n) ∙ sum_by-append (λ s. cond (is_marked 0 s) 1 0) (slots_in n xs) (take 2 (drop (2 * n) xs) ∷ [])
      ∙ ap (λ k. k + count_by (is_marked 0) (take 2 (drop (2 * n) xs) ∷ [])) (count_is n)
      ∙ ap (λ k. free_below xs n + k) (one (take 2 (drop (2 * n) xs)) ∙ ap (λ m. cond {A = ℕ} (eqb m 0) 1 0) (mark_here xs n))
    where
      one : (s : List ℕ) → count_by (is_marked 0) (s ∷ []) ≡ cond (eqb (get_or s 0 0) 0) 1 0
      one s = omega arith

  -- the numbers of those that are not
  pub numbers_are : (n : ℕ) → map (λ m. m - 1) (filter (λ m. ltb 0 m) (map (λ s. get_or s 0 0) (slots_in n xs))) ≡ numbers_below xs n
  numbers_are zero = refl
  numbers_are (suc n) =
      let marks : List (List ℕ) → List ℕ = map (λ s. get_or s 0 0) in
      let held : List ℕ → List ℕ = filter (λ m. ltb 0 m) in
      let less : List ℕ → List ℕ = map (λ m. m - 1) in
      ap (λ l. less (held (marks l))) (more_behind n)
      ∙ ap (λ l. less (held l)) (map-append (λ (s : List ℕ). get_or s 0 0) (slots_in n xs) (take 2 (drop (2 * n) xs) ∷ []))
      ∙ ap less (filter-append (λ m. ltb 0 m) (marks (slots_in n xs)) _)
      ∙ map-append (λ (m : ℕ). m - 1) (held (marks (slots_in n xs))) _
      ∙ ap (λ l. l ++ less (held (get_or (take 2 (drop (2 * n) xs)) 0 0 ∷ []))) (numbers_are n)
      ∙ ap (λ m. numbers_below xs n ++ less (held (m ∷ []))) (mark_here xs n)
      ∙ ap (λ l. numbers_below xs n ++ l) (one (mark_at xs n))
    where
      one : (m : ℕ) → map (λ k. k - 1) (filter (λ k. ltb 0 k) (m ∷ [])) ≡ cond (eqb m 0) [] ((m - 1) ∷ [])
      one zero = refl
      one (suc m) = rw (lt-ltb 0 (suc m) (omega arith), ne_eqb (suc m) 0 (λ e. omega (arith, e))) refl
