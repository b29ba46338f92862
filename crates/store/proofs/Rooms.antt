-- How much memory the files and the entries of a store take.
use Rattle.std.proofs.Common.{◌≡◌, ℕ, zero, suc, ◌+◌, ◌-◌, ◌/◌, ◌≤◌, cond, eqb, ◌⊎◌, List, [], ◌∷◌, ◌++◌, length, get_or, take, drop, Some, None, sum_by, Option, refl, ap, inl, inr, div-mul-le_self, arith}
use Rattle.std.specs.List.{flat_map}
use Rattle.std.proofs.lemmas.Nat.{le-div}
use Rattle.std.proofs.lemmas.List.{length-append, length-take}
use Rattle.std.proofs.lemmas.List.Sums.{sum_by-cons, sum_by_push}
use Rattle.std.proofs.lemmas.Bool.Decides.{nat_tests}
use Rattle.rows.specs.Checks.{some_else}
use Rattle.codec.specs.Seals.{sealed_bytes}
use Rattle.store.specs.Export.{entry_held, entries_below, entries_held, files_held, counted, numbered, header_words, header_of, exported}
use Rattle.store.specs.Log.{log_end, bounds_of, Log, SoundLog}
use Rattle.store.specs.Slots.{slot_size, slots}
use Rattle.store.specs.StoreLaws.{AsMuchMemoryHasRoom}
use Rattle.store.proofs.Standing.{length_counted}

-- more memory has no fewer slots
slots_grow : (most a b c d : ℕ) → a ≤ c → b ≤ d → slots most a b ≤ slots most c d
slots_grow most a b c d h k =
    let m : b / slot_size most ≤ d / slot_size most = le-div (b / slot_size most) d (slot_size most) (omega arith) (omega (arith, div-mul-le_self b (slot_size most))) in
    omega (arith, m)

-- entries are not longer than what is written of them
counted_longer : (cs : List (List ℕ)) → sum_by length cs ≤ length (flat_map counted cs)
counted_longer [] = omega arith
counted_longer (c ∷ cs) = omega (arith, sum_by-cons length c cs, length-append (counted c) (flat_map counted cs), length_counted c, counted_longer cs)

-- an entry lies between where it begins and where it ends
entry_between : (l : Log) (n start : ℕ) → log_end l.ends n ≡ Some start → start ≤ get_or l.ends n 0 → start + length (entry_held l n) ≤ get_or l.ends n 0
entry_between l n start e h = by (bounds_of l.ends (length l.bytes) n) refl
  where
    by : (o : Option (ℕ × ℕ)) → bounds_of l.ends (length l.bytes) n ≡ o → start + length (some_else (some_else o None (λ b. Some (take (b.1 - b.0) (drop b.0 l.bytes)))) [] (λ bs. bs)) ≤ get_or l.ends n 0
    by None q = omega arith
    by (Some (a, b)) q =
        let p : a ≡ start = grind (arith, nat_tests) in
        let r : b ≡ get_or l.ends n 0 = grind (arith, nat_tests) in
        omega (arith, length-take (b - a) (drop a l.bytes))

-- so the first entries of a sound log lie before the end of the last of them
entries_end : (l : Log) (n end : ℕ) → SoundLog l → n ≤ l.count → log_end l.ends n ≡ Some end → sum_by length (entries_below l n) ≤ end
entries_end l zero end s h e = omega arith
entries_end l (suc n) end s h e =
    let start = cond (eqb n 0) 0 (get_or l.ends (n - 1) 0) in
    let long : l.count ≤ length l.ends = s.0 in
    let began : log_end l.ends n ≡ Some (cond (eqb n 0) 0 (get_or l.ends (n - 1) 0)) = grind (arith, nat_tests) in
    let z : suc n - 1 ≡ n = omega arith in
    let g : get_or l.ends (suc n - 1) 0 ≡ get_or l.ends n 0 = ap (λ j. get_or l.ends j 0) z in
    let last : end ≡ get_or l.ends n 0 = grind (arith, nat_tests) in
    let r = s.1 (n - 1) n (omega arith) (omega arith) in
    let rise : cond (eqb n 0) 0 (get_or l.ends (n - 1) 0) ≤ get_or l.ends n 0 = grind (arith, nat_tests) in
    let m = entry_between l n start began rise in
    omega (arith, sum_by_push length (entries_below l n) (entry_held l n), entries_end l n start s (omega arith) began)

-- and all of them in the log
entries_inside : (l : Log) → SoundLog l → sum_by length (entries_held l) ≤ length l.bytes
entries_inside l s = by l.count refl
  where
    by : (n : ℕ) → n ≡ l.count → sum_by length (entries_below l n) ≤ length l.bytes
    by zero e = omega arith
    by (suc n) e =
        let long : l.count ≤ length l.ends = s.0 in
        let z : suc n - 1 ≡ n = omega arith in
        let g : get_or l.ends (suc n - 1) 0 ≡ get_or l.ends n 0 = ap (λ j. get_or l.ends j 0) z in
        let q : log_end l.ends (suc n) ≡ Some (get_or l.ends n 0) = grind (arith, nat_tests) in
        omega (arith, entries_end l (suc n) (get_or l.ends n 0) s (omega arith) q, s.2 n (omega arith))

pub as_much_memory_has_room : AsMuchMemoryHasRoom
unfolding exported
as_much_memory_has_room horizon s l directory bytes ends log h k c m =
    (slots_grow s.most (length s.directory) (length s.bytes) (length directory) (length bytes) h k, c, by m)
  where
    by : (SoundLog l × (length l.bytes ≤ length log)) ⊎ (length (sealed_bytes (header_words (header_of horizon l.count s)) ++ (flat_map numbered (files_held s) ++ flat_map counted (entries_held l))) ≤ length log) → sum_by length (entries_held l) ≤ length log
    by (inl p) = omega (arith, entries_inside l p.0, p.1)
    by (inr p) =
        omega (arith, p, counted_longer (entries_held l), length-append (flat_map numbered (files_held s)) (flat_map counted (entries_held l)), length-append (sealed_bytes (header_words (header_of horizon l.count s))) (flat_map numbered (files_held s) ++ flat_map counted (entries_held l)))
