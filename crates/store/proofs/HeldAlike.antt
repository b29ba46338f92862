-- What is found in a store hangs on the files and the entries that it holds, and on nothing else.
use Rattle.std.proofs.Common.{◌≡◌, ℕ, zero, suc, ◌+◌, ◌-◌, ◌*◌, ◌<◌, Bool, true, false, cond, eqb, ltb, leb, ◌⊎◌, List, [], ◌∷◌, ◌++◌, map, length, take, drop, Some, None, Option, sym, refl, ap, ◌∙◌, inl, inr, arith}
use Rattle.std.specs.Option.{option_map}
use Rattle.std.proofs.lemmas.List.{map-append, same_from_push}
use Rattle.std.proofs.lemmas.Bool.{cases_eq, eqb-true, eqb-false, ltb-true, ne_eqb}
use Rattle.std.proofs.lemmas.Bool.Decides.{nat_tests}
use Rattle.rows.specs.Checks.{some_else}
use Rattle.codec.specs.declared.file.Head.{Head}
use Rattle.codec.specs.Entries.{entry_from, entry_in}
use Rattle.codec.specs.Files.{File, head_of, file_in}
use Rattle.codec.specs.Rewrites.{part_in}
use Rattle.codec.proofs.SealLaws.{unsealed_empty}
use Rattle.store.specs.declared.files.Stored.{Stored}
use Rattle.store.specs.Export.{slots_of, file_of_slot, files_below, files_held, entry_held, entries_below, entries_held}
use Rattle.store.specs.Log.{Log, entry_bytes_at, entry_placed, entry_at}
use Rattle.store.specs.Putting.{Files}
use Rattle.store.specs.Slots.{slot_size, mark_at, length_at, first_from, slot_with, slot_bytes, stored_at, stored, numbers_below}
use Rattle.store.specs.StoreLaws.{found_under, entry_under, WhatHoldsTheSameAnswersAlike}
use Rattle.store.proofs.HeldEntries.{length_entries}
use Rattle.store.proofs.LogLaws.{placed_none}
use Rattle.store.proofs.SlotLaws.{file_in_nothing}

abbrev number_of : ℕ × List ℕ → ℕ
number_of f = f.0

-- the numbers are those of the files held
numbers_held : (s : Files) (n : ℕ) → numbers_below s.directory n ≡ map number_of (files_below s n)
numbers_held s zero = refl
numbers_held s (suc n) =
    ap (λ l. l ++ cond (eqb (mark_at s.directory n) 0) [] ((mark_at s.directory n - 1) ∷ [])) (numbers_held s n)
    ∙ ap (λ l. map number_of (files_below s n) ++ l) (by (eqb (mark_at s.directory n) 0))
    ∙ sym (map-append number_of (files_below s n) (file_of_slot s n))
  where
    by : (b : Bool) → cond b [] ((mark_at s.directory n - 1) ∷ []) ≡ map number_of (cond b [] ((mark_at s.directory n - 1, slot_bytes s.most s.directory s.bytes n) ∷ []))
    by true = refl
    by false = refl

-- the bytes of the first file with a number
abbrev first_file : ℕ → List (ℕ × List ℕ) → Option (List ℕ)
first_file n [] = None
first_file n (f ∷ xs) = cond (eqb f.0 n) (Some f.1) (first_file n xs)

first_file_append : (n : ℕ) (xs ys : List (ℕ × List ℕ)) → first_file n (xs ++ ys) ≡ some_else (first_file n xs) (first_file n ys) (λ bs. Some bs)
first_file_append n [] ys = refl
first_file_append n (f ∷ xs) ys = by (eqb f.0 n) (first_file_append n xs ys)
  where
    by : (b : Bool) → first_file n (xs ++ ys) ≡ some_else (first_file n xs) (first_file n ys) (λ bs. Some bs)
        → cond b (Some f.1) (first_file n (xs ++ ys)) ≡ some_else (cond b (Some f.1) (first_file n xs)) (first_file n ys) (λ bs. Some bs)
    by true ih = refl
    by false ih = ih

-- a search with one place more
first_last : (p : ℕ → Bool) (n i : ℕ) → first_from p (suc n) i ≡ some_else (first_from p n i) (cond (p (i + n)) (Some (i + n)) None) (λ j. Some j)
first_last p zero i = let z : i ≡ i + 0 = omega arith in ap (λ j. cond (p j) (Some j) None) z
first_last p (suc n) i = by (p i) (first_last p n (i + 1))
  where
    by : (b : Bool) → first_from p (suc n) (i + 1) ≡ some_else (first_from p n (i + 1)) (cond (p (i + 1 + n)) (Some (i + 1 + n)) None) (λ j. Some j)
        → cond b (Some i) (first_from p (suc n) (i + 1)) ≡ some_else (cond b (Some i) (first_from p n (i + 1))) (cond (p (i + suc n)) (Some (i + suc n)) None) (λ j. Some j)
    by true ih = refl
    by false ih = let z : i + 1 + n ≡ i + suc n = omega arith in ih ∙ ap (λ k. some_else (first_from p n (i + 1)) (cond (p k) (Some k) None) (λ j. Some j)) z

module _ (s : Files) (number : ℕ) where
  abbrev bears : ℕ → Bool
  bears i = eqb (mark_at s.directory i) (number + 1)

  abbrev bytes_in : ℕ → List ℕ
  bytes_in i = slot_bytes s.most s.directory s.bytes i

  slot_first : (n : ℕ) → first_file number (file_of_slot s n) ≡ option_map bytes_in (cond (bears n) (Some n) None)
  slot_first n = by (eqb (mark_at s.directory n) 0) refl
    where
      one : (b : Bool) → cond b (Some (bytes_in n)) None ≡ option_map bytes_in (cond b (Some n) None)
      one true = refl
      one false = refl

      by : (b : Bool) → eqb (mark_at s.directory n) 0 ≡ b → first_file number (cond b [] ((mark_at s.directory n - 1, bytes_in n) ∷ [])) ≡ option_map bytes_in (cond (bears n) (Some n) None)
      by true e =
          let z = eqb-true (mark_at s.directory n) 0 e in
          ap (λ b. option_map bytes_in (cond b (Some n) None)) (sym (ne_eqb (mark_at s.directory n) (number + 1) (λ q. omega (arith, z, q))))
      by false e =
          let z = eqb-false (mark_at s.directory n) 0 e in
          let same : eqb (mark_at s.directory n - 1) number ≡ eqb (mark_at s.directory n) (number + 1) = grind (arith, nat_tests) in
          ap (λ b. cond b (Some (bytes_in n)) None) same ∙ one (bears n)

  -- the first file with a number lies in the first slot that bears it
  slots_first : (n : ℕ) → first_file number (files_below s n) ≡ option_map bytes_in (first_from bears n 0)
  slots_first zero = refl
  slots_first (suc n) =
      let z : 0 + n ≡ n = omega arith in
      first_file_append number (files_below s n) (file_of_slot s n)
      ∙ ap (λ o. some_else o (first_file number (file_of_slot s n)) (λ bs. Some bs)) (slots_first n)
      ∙ by (first_from bears n 0)
      ∙ ap (λ k. option_map bytes_in (some_else (first_from bears n 0) (cond (bears k) (Some k) None) (λ j. Some j))) (sym z)
      ∙ ap (option_map bytes_in) (sym (first_last bears n 0))
    where
      by : (o : Option ℕ) → some_else (option_map bytes_in o) (first_file number (file_of_slot s n)) (λ bs. Some bs) ≡ option_map bytes_in (some_else o (cond (bears n) (Some n) None) (λ j. Some j))
      by None = slot_first n
      by (Some j) = refl

  -- the file that bytes are, if it bears the number
  abbrev read_as : List ℕ → Option (Head × List ℕ)
  read_as bs = some_else (file_in bs) None (λ f. cond (eqb f.number number) (Some (head_of f, bs)) None)

  abbrev with_bytes : Stored → Head × List ℕ
  with_bytes x = (x.head, part_in x.part s.bytes)

  abbrev lying : ℕ → List ℕ
  lying j = take (length_at s.directory j) (drop (j * slot_size s.most) s.bytes)

  abbrev told : ℕ → File → Option Stored
  told j f = cond (eqb f.number number) (Some (record { part = record { start = j * slot_size s.most; length = length_at s.directory j }; head = head_of f })) None

  in_slot : (j : ℕ) → option_map with_bytes (stored_at s.most s.directory s.bytes number j) ≡ read_as (bytes_in j)
  in_slot j = by (leb (length_at s.directory j) (slot_size s.most))
    where
      test : (f : File) (b : Bool)
          → option_map with_bytes (cond b (Some (record { part = record { start = j * slot_size s.most; length = length_at s.directory j }; head = head_of f })) None)
          ≡ cond b (Some (head_of f, lying j)) None
      test f true = refl
      test f false = refl

      file : (o : Option File) → option_map with_bytes (some_else o None (told j)) ≡ some_else o None (λ f. cond (eqb f.number number) (Some (head_of f, lying j)) None)
      file None = refl
      file (Some f) = test f (eqb f.number number)

      by : (b : Bool) → option_map with_bytes (some_else (file_in (cond b (lying j) [])) None (told j)) ≡ read_as (cond b (lying j) [])
      by true = file (file_in (lying j))
      by false =
          ap (λ o. option_map with_bytes (some_else o None (told j))) (sym file_in_nothing)
          ∙ ap (λ o. some_else o None (λ f. cond (eqb f.number number) (Some (head_of f, [])) None)) file_in_nothing

  found_by_held : found_under s number ≡ some_else (first_file number (files_held s)) None read_as
  unfolding stored slot_with
  found_by_held = by (first_from bears (slots_of s) 0) ∙ ap (λ o. some_else o None read_as) (sym (slots_first (slots_of s)))
    where
      by : (o : Option ℕ) → option_map with_bytes (some_else o None (stored_at s.most s.directory s.bytes number)) ≡ some_else (option_map bytes_in o) None read_as
      by None = refl
      by (Some j) = in_slot j

-- the entry at a place is that of the bytes held there
entry_in_nothing : None ≡ entry_in []
unfolding entry_in
entry_in_nothing = ap (λ o. some_else o None entry_from) (sym (unsealed_empty [] refl refl))

entry_by_held : (l : Log) (k : ℕ) → entry_under l k ≡ cond (ltb k l.count) (entry_placed k (entry_held l k)) None
unfolding entry_at
entry_by_held l k = ap (λ o. cond (ltb k l.count) o None) (by (entry_bytes_at l.ends l.bytes k))
  where
    by : (o : Option (List ℕ)) → some_else o None (entry_placed k) ≡ entry_placed k (some_else o [] (λ bs. bs))
    by None = placed_none k [] entry_in_nothing
    by (Some bs) = refl

held_each : (l m : Log) (n : ℕ) → entries_below l n ≡ entries_below m n → (k : ℕ) → k < n → entry_held l k ≡ entry_held m k
held_each l m zero e k h = absurd (omega arith)
held_each l m (suc n) e k h = by (cases_eq k n) (held_each l m n p.0 k)
  where
    p : (entries_below l n ≡ entries_below m n) × (entry_held l n ≡ entry_held m n)
    p = same_from_push (entries_below l n) (entries_below m n) (entry_held l n) (entry_held m n) e

    by : (k ≡ n) ⊎ (k ≡ n → ⊥) → (k < n → entry_held l k ≡ entry_held m k) → entry_held l k ≡ entry_held m k
    by (inl q) ih = ap (entry_held l) q ∙ p.1 ∙ ap (entry_held m) (sym q)
    by (inr q) ih = ih (omega arith)

entries_alike : (l m : Log) → entries_held l ≡ entries_held m → (k : ℕ) → entry_under l k ≡ entry_under m k
entries_alike l m e k =
    entry_by_held l k ∙ ap (λ n. cond (ltb k n) (entry_placed k (entry_held l k)) None) many ∙ by (ltb k m.count) refl ∙ sym (entry_by_held m k)
  where
    many : l.count ≡ m.count
    many = sym (length_entries l l.count) ∙ ap length e ∙ length_entries m m.count

    by : (b : Bool) → ltb k m.count ≡ b → cond b (entry_placed k (entry_held l k)) None ≡ cond b (entry_placed k (entry_held m k)) None
    by true h = ap (entry_placed k) (held_each l m m.count (ap (entries_below l) (sym many) ∙ e) k (ltb-true k m.count h))
    by false h = refl

pub what_holds_the_same_answers_alike : WhatHoldsTheSameAnswersAlike
what_holds_the_same_answers_alike = (
  λ s t e. (
    numbers_held s (slots_of s) ∙ ap (map number_of) e ∙ sym (numbers_held t (slots_of t)),
    λ n. found_by_held s n ∙ ap (λ xs. some_else (first_file n xs) None (read_as s n)) e ∙ sym (found_by_held t n),
  ),
  entries_alike,
)
