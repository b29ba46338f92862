-- Files as they are read: the head, and the rows one by one.
use Rattle.std.proofs.Common.{◌≡◌, ℕ, zero, suc, ◌+◌, ◌-◌, ◌*◌, ◌/◌, ◌<◌, ◌≤◌, min, Bool, true, false, cond, List, [], ◌∷◌, length, get_or, drop, map, is_some, Some, None, sym, refl, ap, ◌∙◌, arith}
use Rattle.std.specs.List.{list_all}
use Rattle.std.specs.Simd.{first_chunks}
use Rattle.std.specs.Option.{option_map}
use Rattle.std.proofs.lemmas.List.{length-drop, get_or-drop}
use Rattle.std.proofs.lemmas.Bool.{le-leb, lt-leb}
use Rattle.std.proofs.lemmas.Bool.Decides.{nat_tests}
use Rattle.rows.specs.declared.row.Row.{Row}
use Rattle.rows.specs.Checks.{some_else}
use Rattle.rows.specs.Numbers.{row}
use Rattle.codec.specs.declared.file.Head.{Head}
use Rattle.codec.specs.Bounds.{every}
use Rattle.codec.specs.Files.{row_fits, row_read, row_fitting, fitting, pairs, head_in, head_of, file, row_in, with_rows, file_from, file_in}
use Rattle.codec.specs.Seals.{unsealed}
use Rattle.codec.specs.Words.{le, numbers}
use Rattle.codec.proofs.BoundLaws.{is_some_cond}

-- rows of numbers
pub length_pairs : (n : ℕ) (vs : List ℕ) → length vs ≡ 2 * n → length (pairs vs) ≡ n
length_pairs zero [] h = refl
length_pairs zero (a ∷ vs) h = absurd (omega arith)
length_pairs (suc n) [] h = absurd (omega arith)
length_pairs (suc n) (a ∷ []) h = absurd (omega arith)
length_pairs (suc n) (a ∷ b ∷ vs) h = ap suc (length_pairs n vs (omega arith))

pub getD_pairs : (vs : List ℕ) (i : ℕ) (d : Row) → 2 * i + 2 ≤ length vs → get_or (pairs vs) i d ≡ row (get_or vs (2 * i) 0) (get_or vs (1 + 2 * i) 0)
getD_pairs [] i d h = absurd (omega arith)
getD_pairs (a ∷ []) i d h = absurd (omega arith)
getD_pairs (a ∷ b ∷ vs) zero d h = refl
getD_pairs (a ∷ b ∷ vs) (suc i) d h =
    let e : suc (suc (2 * i)) ≡ 2 * suc i = omega arith in
    let f : suc (suc (1 + 2 * i)) ≡ 1 + 2 * suc i = omega arith in
    getD_pairs vs i d (omega arith) ∙ ap (λ k. row (get_or (a ∷ b ∷ vs) k 0) (get_or vs (1 + 2 * i) 0)) e ∙ ap (λ k. row (get_or (a ∷ b ∷ vs) (2 * suc i) 0) (get_or (a ∷ b ∷ vs) k 0)) f

pub length_pairs_half : (vs : List ℕ) → length (pairs vs) ≡ length vs / 2
length_pairs_half [] = refl
length_pairs_half (a ∷ []) = refl
length_pairs_half (a ∷ b ∷ vs) = let h = length_pairs_half vs in omega arith

-- rows that are lent as the bytes of their numbers
pub pairs_read : (n : ℕ) (ws : List (List ℕ)) → n ≡ length ws / 2 → map row_read (first_chunks 2 n ws) ≡ pairs (numbers ws)
pairs_read zero [] h = refl
pairs_read zero (v ∷ []) h = refl
pairs_read zero (v ∷ w ∷ ws) h = absurd (omega arith)
pairs_read (suc n) [] h = absurd (omega arith)
pairs_read (suc n) (v ∷ []) h = absurd (omega arith)
pairs_read (suc n) (v ∷ w ∷ ws) h = ap (λ l. row (le v) (le w) ∷ l) (pairs_read n ws (omega arith))

pub behind_head : {A : Type 0} (ws : List A) → drop (min (length ws) 3) ws ≡ drop 3 ws
behind_head [] = refl
behind_head (a ∷ []) = refl
behind_head (a ∷ b ∷ []) = refl
behind_head (a ∷ b ∷ c ∷ ws) = let three : min (length (a ∷ b ∷ c ∷ ws)) 3 ≡ 3 = omega arith in ap (λ k. drop k (a ∷ b ∷ c ∷ ws)) three

pub all_fit : (ps : List (List (List ℕ))) → list_all (λ p. is_some (row_fitting (row_read p))) ps ≡ every row_fits (map row_read ps)
all_fit [] = refl
all_fit (p ∷ ps) =
    let ih = all_fit ps in
    let here = is_some_cond (row_fits (row_read p)) (row_read p) in
    rw (here, ih)

fitting_fewer : (b : Bool) (r : Row) (rs : List Row) (n : ℕ) → length rs ≤ n → length (cond b (r ∷ rs) []) ≤ suc n
fitting_fewer true r rs n h = omega arith
fitting_fewer false r rs n h = omega arith

pub fitting_few : (rs : List Row) → length (fitting rs) ≤ length rs
fitting_few [] = omega arith
fitting_few (r ∷ rs) = fitting_fewer (row_fits r) r (fitting rs) (length rs) (fitting_few rs)

module _ (ws : List ℕ) (i : ℕ) where
  many : length (pairs (drop 3 ws)) ≡ (length ws - 3) / 2
  many = length_pairs_half (drop 3 ws) ∙ ap (λ n. n / 2) (length-drop 3 ws)

  pub row_past : length (pairs (drop 3 ws)) ≤ i → None ≡ row_in ws i
  row_past h = rw (lt-leb (5 + 2 * i) (length ws) (omega (arith, many)))

  pub row_in_pairs : (d : Row) → i < length (pairs (drop 3 ws)) → row_fitting (get_or (pairs (drop 3 ws)) i d) ≡ row_in ws i
  row_in_pairs d h =
      let l : 5 + 2 * i ≤ length ws = omega (arith, many) in
      let t = le-leb (5 + 2 * i) (length ws) l in
      let e : get_or (pairs (drop 3 ws)) i d ≡ row (get_or ws (3 + 2 * i) 0) (get_or ws (4 + 2 * i) 0) =
      getD_pairs (drop 3 ws) i d (omega (arith, length-drop 3 ws))
      ∙ ap (λ k. row k (get_or (drop 3 ws) (1 + 2 * i) 0)) (get_or-drop 3 ws (2 * i) 0)
      ∙ ap (λ a. row (get_or ws (3 + 2 * i) 0) a) (get_or-drop 3 ws (1 + 2 * i) 0 ∙ ap (λ k. get_or ws k 0) (omega arith)) in
      cc

-- the whole of a file
pub file_unsealed : (xs ws : List ℕ) → unsealed xs ≡ Some ws → file_in xs ≡ file_from ws
unfolding file_in
file_unsealed xs ws e = ap (λ o. some_else o None file_from) e

pub file_not_sealed : (xs : List ℕ) → unsealed xs ≡ None → None ≡ option_map head_of (file_in xs)
unfolding file_in
file_not_sealed xs e = ap (λ o. option_map head_of (some_else o None file_from)) (sym e)

-- a head says how many numbers there are
pub head_count : (ws : List ℕ) (h : Head) → Some h ≡ head_in ws → length ws ≡ 3 + 2 * h.count
head_count ws h e = grind (arith, nat_tests)

module _ (xs ws : List ℕ) (u : unsealed xs ≡ Some ws) where
  pub file_headless : None ≡ head_in ws → None ≡ option_map head_of (file_in xs)
  file_headless e = ap (λ o. option_map head_of (some_else o None (λ h. with_rows h (pairs (drop 3 ws))))) e ∙ ap (option_map head_of) (sym (file_unsealed xs ws u))

  pub file_told : (h : Head) → Some h ≡ head_in ws → cond (every row_fits (pairs (drop 3 ws))) (Some h) None ≡ option_map head_of (file_in xs)
  file_told h e =
      let rs = pairs (drop 3 ws) in
      let n : length (pairs (drop 3 ws)) ≡ h.count = length_pairs_half (drop 3 ws) ∙ omega (arith, length-drop 3 ws, head_count ws h e) in
      ap (λ k. cond (every row_fits (pairs (drop 3 ws))) (Some (record { number = h.number; began = h.began; count = k })) None) (sym n)
      ∙ told (every row_fits rs)
      ∙ ap (λ o. option_map head_of (some_else o None (λ g. with_rows g (pairs (drop 3 ws))))) e
      ∙ ap (option_map head_of) (sym (file_unsealed xs ws u))
    where
      told : (b : Bool) → cond b (Some (record { number = h.number; began = h.began; count = length (pairs (drop 3 ws)) })) None ≡ option_map head_of (cond b (Some (file h.number h.began (pairs (drop 3 ws)))) None)
      told true = refl
      told false = refl
