-- The files that memory holds, and what it holds once files were laid into its slots.
use Rattle.std.proofs.Common.{◌≡◌, ℕ, zero, suc, ◌+◌, ◌-◌, ◌*◌, ◌^◌, ◌<◌, ◌≤◌, Bool, true, false, cond, eqb, leb, ◌⊎◌, List, [], ◌∷◌, ◌++◌, length, take, drop, set, replicate, sym, refl, ap, ◌∙◌, inl, inr, arith}
use Rattle.std.specs.List.{AllByRecursion}
use Rattle.std.proofs.ByRecursion.{All-append, All-get_or}
use Rattle.std.proofs.lemmas.List.{append_assoc, append-nil, get_or_past, get_or-replicate, length-replicate, length-take}
use Rattle.std.proofs.lemmas.Bool.{cases_lt, eq-eqb, ne_eqb, eqb-false, leb-true}
use Rattle.codec.specs.Words.{AreWords, put_at}
use Rattle.store.specs.Export.{file_of_slot, files_below, files_held}
use Rattle.store.specs.Putting.{Files}
use Rattle.store.specs.Slots.{slot_size, slots, mark_at, length_at, slot_bytes}
use Rattle.store.proofs.FileKeeping.{length_marked, marked_here, marked_other, length_overwritten, slot_kept, slot_new}
use Rattle.store.proofs.SlotLaws.{slot_inside}
use Rattle.store.proofs.Standing.{listed, laid, Fits}

abbrev files_in : ℕ → ℕ → List ℕ → List ℕ → Files
files_in most next d fs = record { most = most; next = next; directory = d; bytes = fs }

-- slots with the same files
files_same : (s t : Files) (n : ℕ) → ((j : ℕ) → j < n → file_of_slot s j ≡ file_of_slot t j) → files_below s n ≡ files_below t n
files_same s t zero h = refl
files_same s t (suc n) h =
    ap (λ l. l ++ file_of_slot s n) (files_same s t n (λ j k. h j (omega arith))) ∙ ap (λ l. files_below t n ++ l) (h n (omega arith))

-- free slots hold no files
files_free : (s : Files) (m n : ℕ) → ((j : ℕ) → m ≤ j → mark_at s.directory j ≡ 0) → files_below s (m + n) ≡ files_below s m
files_free s m zero h = let z : m + 0 ≡ m = omega arith in ap (files_below s) z
files_free s m (suc n) h =
    let z : m + suc n ≡ suc (m + n) = omega arith in
    ap (files_below s) z
    ∙ ap (λ b. files_below s (m + n) ++ cond b [] ((mark_at s.directory (m + n) - 1, slot_bytes s.most s.directory s.bytes (m + n)) ∷ [])) (eq-eqb (mark_at s.directory (m + n)) 0 (h (m + n) (omega arith)))
    ∙ append-nil (files_below s (m + n)) ∙ files_free s m n h

-- a file laid into a slot is its file, and the slots before it have theirs
module _ (most next : ℕ) (d fs : List ℕ) (i : ℕ) (f : ℕ × List ℕ) (inside : i < slots most (length d) (length fs)) (room : length f.1 ≤ slot_size most) where
  abbrev d' : List ℕ
  d' = set (set d (2 * i) (f.0 + 1)) (1 + 2 * i) (length f.1)

  abbrev fs' : List ℕ
  fs' = put_at (i * slot_size most) f.1 fs

  file_here : file_of_slot (files_in most next d' fs') i ≡ f ∷ []
  file_here =
      let m = (marked_here d i (f.0 + 1) (length f.1) (slot_inside most (length d) (length fs) i inside).0).0 in
      let z : mark_at (set (set d (2 * i) (f.0 + 1)) (1 + 2 * i) (length f.1)) i - 1 ≡ f.0 = omega (arith, m) in
      let w = slot_new most d fs i (f.0 + 1) f.1 inside room in
      ap (λ b. cond b [] ((mark_at d' i - 1, slot_bytes most d' fs' i) ∷ [])) (ne_eqb (mark_at d' i) 0 (λ q. omega (arith, m, q)))
      ∙ (λ j. (z j, w j) ∷ [])

  file_before : (j : ℕ) → j < i → file_of_slot (files_in most next d' fs') j ≡ file_of_slot (files_in most next d fs) j
  file_before j h =
      let m = (marked_other d i (f.0 + 1) (length f.1) j (omega arith)).0 in
      let w = slot_kept most d fs i (f.0 + 1) f.1 inside room j (omega arith) in
      λ k. cond (eqb (m k) 0) [] ((m k - 1, w k) ∷ [])

  files_more : files_below (files_in most next d' fs') (i + 1) ≡ files_below (files_in most next d fs) i ++ (f ∷ [])
  files_more =
      let z : i + 1 ≡ suc i = omega arith in
      ap (files_below (files_in most next d' fs')) z
      ∙ ap (λ l. l ++ file_of_slot (files_in most next d' fs') i) (files_same (files_in most next d' fs') (files_in most next d fs) i file_before)
      ∙ ap (λ l. files_below (files_in most next d fs) i ++ l) file_here

length_listed : (xs : List (ℕ × List ℕ)) (i : ℕ) (d : List ℕ) → length (listed i xs d) ≡ length d
length_listed [] i d = refl
length_listed (f ∷ xs) i d = length_listed xs (i + 1) (set (set d (2 * i) (f.0 + 1)) (1 + 2 * i) (length f.1)) ∙ length_marked d i (f.0 + 1) (length f.1)

listed_above : (xs : List (ℕ × List ℕ)) (i : ℕ) (d : List ℕ) (j : ℕ) → i + length xs ≤ j → mark_at (listed i xs d) j ≡ mark_at d j
listed_above [] i d j h = refl
listed_above (f ∷ xs) i d j h =
    listed_above xs (i + 1) (set (set d (2 * i) (f.0 + 1)) (1 + 2 * i) (length f.1)) j (omega arith) ∙ (marked_other d i (f.0 + 1) (length f.1) j (omega arith)).0

-- files laid into the slots from one on are the files of those slots
files_laid : (most next : ℕ) (xs : List (ℕ × List ℕ)) (i : ℕ) (d fs : List ℕ) → i + length xs ≤ slots most (length d) (length fs) → AllByRecursion (Fits most) xs
    → (files_below (files_in most next (listed i xs d) (laid most i xs fs)) (i + length xs) ≡ files_below (files_in most next d fs) i ++ xs) × (length (laid most i xs fs) ≡ length fs)
files_laid most next [] i d fs h a = let z : i + 0 ≡ i = omega arith in (ap (files_below (files_in most next d fs)) z ∙ sym (append-nil (files_below (files_in most next d fs) i)), refl)
files_laid most next (f ∷ xs) i d fs h a =
    let inside : i < slots most (length d) (length fs) = omega arith in
    let d' = set (set d (2 * i) (f.0 + 1)) (1 + 2 * i) (length f.1) in
    let fs' = put_at (i * slot_size most) f.1 fs in
    let long : slots most (length d) (length fs) ≡ slots most (length (set (set d (2 * i) (f.0 + 1)) (1 + 2 * i) (length f.1))) (length (put_at (i * slot_size most) f.1 fs)) =
    λ k. slots most (sym (length_marked d i (f.0 + 1) (length f.1)) k) (sym (length_overwritten most d fs i (f.0 + 1) f.1 inside a.0.2) k) in
    let ih = files_laid most next xs (i + 1) d' fs' (omega (arith, h, long)) a.1 in
    let z : i + suc (length xs) ≡ i + 1 + length xs = omega arith in (
      ap (files_below (files_in most next (listed (i + 1) xs d') (laid most (i + 1) xs fs'))) z ∙ ih.0
          ∙ ap (λ l. l ++ xs) (files_more most next d fs i f inside a.0.2)
          ∙ append_assoc (files_below (files_in most next d fs) i) (f ∷ []) xs,
      ih.1 ∙ length_overwritten most d fs i (f.0 + 1) f.1 inside a.0.2,
    )

free_mark : (n j : ℕ) → mark_at (replicate n 0) j ≡ 0
free_mark n j = by (cases_lt (2 * j) n)
  where
    by : (2 * j < n) ⊎ (n ≤ 2 * j) → mark_at (replicate n 0) j ≡ 0
    by (inl h) = get_or-replicate {A = ℕ} n (2 * j) 0 0 h
    by (inr h) = get_or_past (replicate n 0) (2 * j) 0 (omega (arith, length-replicate {A = ℕ} n 0))

-- files laid into cleared slots are the files held
pub files_come_back : (most next : ℕ) (xs : List (ℕ × List ℕ)) (n : ℕ) (fs : List ℕ) → length xs ≤ slots most n (length fs) → AllByRecursion (Fits most) xs
    → files_held (files_in most next (listed 0 xs (replicate n 0)) (laid most 0 xs fs)) ≡ xs
files_come_back most next xs n fs h a =
    let z : slots most n (length fs) ≡ 0 + length xs + (slots most n (length fs) - length xs) = omega arith in
    let clear = length-replicate {A = ℕ} n 0 in
    let room : slots most n (length fs) ≡ slots most (length (replicate n 0)) (length fs) = λ k. slots most (sym clear k) (length fs) in
    let p = files_laid most next xs 0 (replicate n 0) fs (omega (arith, h, room)) a in
    let t = files_in most next (listed 0 xs (replicate n 0)) (laid most 0 xs fs) in
    let many : slots most (length (listed 0 xs (replicate n 0))) (length (laid most 0 xs fs)) ≡ slots most n (length fs) =
    λ k. slots most ((length_listed xs 0 (replicate n 0) ∙ clear) k) (p.1 k) in
    ap (files_below t) (many ∙ z)
    ∙ files_free t (0 + length xs) (slots most n (length fs) - length xs) (λ j k. listed_above xs 0 (replicate n 0) j k ∙ free_mark n j)
    ∙ p.0

-- the files that memory holds can be read
slot_fits : (s : Files) (i : ℕ) → s.most ≤ 65536 → AreWords s.directory → AllByRecursion (Fits s.most) (file_of_slot s i)
slot_fits s i few a = by (eqb (mark_at s.directory i) 0) refl
  where
    mark : mark_at s.directory i < 2 ^ 64
    mark = either (cases_lt (2 * i) (length s.directory))
      where
        either : (2 * i < length s.directory) ⊎ (length s.directory ≤ 2 * i) → mark_at s.directory i < 2 ^ 64
        either (inl h) = All-get_or (λ w. w < 2 ^ 64) s.directory (2 * i) 0 h a
        either (inr h) = omega (arith, get_or_past s.directory (2 * i) 0 h)

    short : length (slot_bytes s.most s.directory s.bytes i) ≤ slot_size s.most
    short = either (leb (length_at s.directory i) (slot_size s.most)) refl
      where
        either : (b : Bool) → leb (length_at s.directory i) (slot_size s.most) ≡ b → length (cond b (take (length_at s.directory i) (drop (i * slot_size s.most) s.bytes)) []) ≤ slot_size s.most
        either true e = omega (arith, leb-true (length_at s.directory i) (slot_size s.most) e, length-take (length_at s.directory i) (drop (i * slot_size s.most) s.bytes))
        either false e = omega arith

    by : (b : Bool) → eqb (mark_at s.directory i) 0 ≡ b → AllByRecursion (Fits s.most) (cond b [] ((mark_at s.directory i - 1, slot_bytes s.most s.directory s.bytes i) ∷ []))
    by true e = tt
    by false e = let ne = eqb-false (mark_at s.directory i) 0 e in let m = mark in let n = short in ((omega arith, omega arith, n), tt)

pub files_fit : (s : Files) (n : ℕ) → s.most ≤ 65536 → AreWords s.directory → AllByRecursion (Fits s.most) (files_below s n)
files_fit s zero few a = tt
files_fit s (suc n) few a = All-append (Fits s.most) (files_below s n) (file_of_slot s n) (files_fit s n few a) (slot_fits s n few a)
