-- The entries that a log holds, and what it holds once entries were laid into it one behind the other.
use Rattle.std.proofs.Common.{◌≡◌, ℕ, zero, suc, ◌+◌, ◌-◌, ◌^◌, ◌<◌, ◌≤◌, List, [], ◌∷◌, ◌++◌, length, take, drop, set, Some, None, sum_by, Option, sym, refl, ap, ◌∙◌, subst, arith}
use Rattle.std.specs.List.{AllByRecursion}
use Rattle.std.proofs.ByRecursion.{All-append}
use Rattle.std.proofs.lemmas.List.{append_assoc, append-nil, length-append, length-drop, length-set, length-take}
use Rattle.std.proofs.lemmas.List.Sums.{sum_by-cons}
use Rattle.rows.specs.Checks.{some_else}
use Rattle.codec.specs.Words.{put_at}
use Rattle.codec.proofs.WordLaws.{length_put_at}
use Rattle.store.specs.Export.{entry_held, entries_below, entries_held}
use Rattle.store.specs.Log.{log_end, bounds_of, Log, SoundLog}
use Rattle.store.proofs.LogKeeping.{Behind, bytes_at_kept, bytes_at_new, end_new, still_sound, empty_log_sound}
use Rattle.store.proofs.Standing.{ended, logged}

abbrev log_in : ℕ → List ℕ → List ℕ → Log
log_in count es log = record { count = count; ends = es; bytes = log }

-- places with the same entries
entries_same : (l m : Log) (n : ℕ) → ((k : ℕ) → k < n → entry_held l k ≡ entry_held m k) → entries_below l n ≡ entries_below m n
entries_same l m zero h = refl
entries_same l m (suc n) h =
    ap (λ x. x ++ (entry_held l n ∷ [])) (entries_same l m n (λ k j. h k (omega arith))) ∙ ap (λ c. entries_below m n ++ (c ∷ [])) (h n (omega arith))

pub length_entries : (l : Log) (n : ℕ) → length (entries_below l n) ≡ n
length_entries l zero = refl
length_entries l (suc n) = length-append (entries_below l n) (entry_held l n ∷ []) ∙ omega (arith, length_entries l n)

-- entries laid behind those of a sound log are the entries from there on, and it stays sound
entries_laid : (cs : List (List ℕ)) (k used : ℕ) (es log : List ℕ) → SoundLog (log_in k es log) → log_end es k ≡ Some used → k + length cs ≤ length es → used + sum_by length cs ≤ length log
    → (entries_below (log_in (k + length cs) (ended k used cs es) (logged used cs log)) (k + length cs) ≡ entries_below (log_in k es log) k ++ cs) × SoundLog (log_in (k + length cs) (ended k used cs es) (logged used cs log))
entries_laid [] k used es log s b h r =
    let z : k + 0 ≡ k = omega arith in (
      ap (λ n. entries_below (log_in n es log) n) z ∙ sym (append-nil (entries_below (log_in k es log) k)),
      subst (λ (n : ℕ). SoundLog (log_in n es log)) (sym z) s,
    )
entries_laid (c ∷ cs) k used es log s b h r =
    let l = log_in k es log in
    let sum = sum_by-cons length c cs in
    let p : Behind (log_in k es log) c used (length c) = record { bytes = refl; end = omega arith; begins = b; room = omega arith } in
    let es' = set es k (used + length c) in
    let log' = put_at used c log in
    let m = log_in (k + 1) es' log' in
    let le = length-set es k (used + length c) in
    let ll = length_put_at used c log (omega arith) in
    let ih = entries_laid cs (k + 1) (used + length c) es' log' (still_sound l c used (length c) s p) (end_new l c used (length c) s p) (omega arith) (omega arith) in
    let z : k + suc (length cs) ≡ k + 1 + length cs = omega arith in
    let y : k + 1 ≡ suc k = omega arith in
    let kept : (j : ℕ) → j < k → entry_held (log_in (k + 1) (set es k (used + length c)) (put_at used c log)) j ≡ entry_held (log_in k es log) j =
    λ j i. ap (λ o. some_else o [] (λ x. x)) (bytes_at_kept l c used (length c) s p j i) in
    let new : entry_held (log_in (k + 1) (set es k (used + length c)) (put_at used c log)) k ≡ c = ap (λ o. some_else o [] (λ x. x)) (bytes_at_new l c used (length c) s p) in
    let fs = ended (k + 1) (used + length c) cs es' in
    let bs = logged (used + length c) cs log' in (
      ap (λ n. entries_below (log_in n fs bs) n) z ∙ ih.0
          ∙ ap (λ x. x ++ cs) (ap (entries_below m) y ∙ ap (λ x. x ++ (entry_held m k ∷ [])) (entries_same m l k kept) ∙ ap (λ x. entries_below l k ++ (x ∷ [])) new)
          ∙ append_assoc (entries_below l k) (c ∷ []) cs,
      subst (λ (n : ℕ). SoundLog (log_in n fs bs)) (sym z) ih.1,
    )

-- entries laid into a log are the entries held
pub entries_come_back : (count : ℕ) (cs : List (List ℕ)) (es log : List ℕ) → length cs ≡ count → count ≤ length es → sum_by length cs ≤ length log
    → (entries_held (log_in count (ended 0 0 cs es) (logged 0 cs log)) ≡ cs) × SoundLog (log_in count (ended 0 0 cs es) (logged 0 cs log))
entries_come_back count cs es log n h r =
    let p = entries_laid cs 0 0 es log (empty_log_sound es log) refl (omega arith) (omega arith) in
    let z : 0 + length cs ≡ count = omega arith in (
      ap (λ k. entries_below (log_in k (ended 0 0 cs es) (logged 0 cs log)) k) (sym z) ∙ p.0,
      subst (λ (k : ℕ). SoundLog (log_in k (ended 0 0 cs es) (logged 0 cs log))) z p.1,
    )

-- an entry is not longer than the log
entry_short : (l : Log) (k : ℕ) → length (entry_held l k) ≤ length l.bytes
entry_short l k = by (bounds_of l.ends (length l.bytes) k)
  where
    by : (o : Option (ℕ × ℕ)) → length (some_else (some_else o None (λ b. Some (take (b.1 - b.0) (drop b.0 l.bytes)))) [] (λ bs. bs)) ≤ length l.bytes
    by None = omega arith
    by (Some (a, b)) = omega (arith, length-take (b - a) (drop a l.bytes), length-drop a l.bytes)

pub entries_fit : (l : Log) (n : ℕ) → length l.bytes < 2 ^ 64 → AllByRecursion (λ c. length c < 2 ^ 64) (entries_below l n)
entries_fit l zero h = tt
entries_fit l (suc n) h = All-append (λ c. length c < 2 ^ 64) (entries_below l n) (entry_held l n ∷ []) (entries_fit l n h) (omega (arith, entry_short l n), tt)
