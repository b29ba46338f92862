-- What putting an entry leaves of the others.
use Rattle.std.proofs.Common.{◌≡◌, ℕ, ◌+◌, ◌-◌, ◌<◌, ◌≤◌, cond, ◌&&◌, ltb, leb, ◌⊎◌, List, length, get_or, take, drop, set, Some, None, Ok, Err, Option, Result, sym, refl, ap, ◌∙◌, subst, inl, inr, arith}
use Rattle.std.proofs.lemmas.List.{get_or-set_same, get_or-set_other, length-set}
use Rattle.std.proofs.lemmas.Bool.{and_parts, cases_eq, lt-ltb}
use Rattle.std.proofs.lemmas.Bool.Decides.{nat_tests}
use Rattle.rows.specs.Checks.{some_else}
use Rattle.codec.specs.Entries.{LogEntry, entry_fits, entry_bytes, entry_in, writable}
use Rattle.codec.specs.Words.{put_at}
use Rattle.codec.proofs.EntryLaws.{come_back}
use Rattle.codec.proofs.WordLaws.{length_put_at, read_below, read_put}
use Rattle.store.specs.declared.unput.Unput.{Unput}
use Rattle.store.specs.Log.{log_end, bounds_of, entry_bytes_at, entry_placed, entry_at, place_for, Log, put_there, put_entry, SoundLog}
use Rattle.store.specs.StoreLaws.{entry_under, EntriesNeverChange}
use Rattle.store.proofs.LogLaws.{placed_here, Placed, placed}

-- a log with no entries is sound
pub empty_log_sound : (ends bytes : List ℕ) → SoundLog (record { count = 0; ends = ends; bytes = bytes })
empty_log_sound ends bytes = (omega arith, λ j k a b. absurd (omega arith), λ k b. absurd (omega arith))

-- bounds that lie in the log
bounds_are : (ends : List ℕ) (long k a b : ℕ) → Some (a, b) ≡ bounds_of ends long k → (a ≤ b) × (b ≡ get_or ends k 0)
bounds_are ends long k a b q = (grind (arith, nat_tests), grind (arith, nat_tests))

bounds_some : (ends : List ℕ) (long k a b : ℕ) → k < length ends → log_end ends k ≡ Some a → get_or ends k 0 ≡ b → a ≤ b → b ≤ long → Some (a, b) ≡ bounds_of ends long k
bounds_some ends long k a b h e f i j = grind (arith, nat_tests)

log_end_is : (ends : List ℕ) (n start : ℕ) → 0 < n → log_end ends n ≡ Some start → get_or ends (n - 1) 0 ≡ start
log_end_is ends n start h e = grind (arith, nat_tests)

-- the bytes of an entry whose bounds are the same, with the same bytes between them
bytes_at_same : (ends fins log bytes : List ℕ) (k : ℕ) → bounds_of ends (length log) k ≡ bounds_of fins (length bytes) k
    → ((a b : ℕ) → Some (a, b) ≡ bounds_of fins (length bytes) k → take (b - a) (drop a log) ≡ take (b - a) (drop a bytes))
    → entry_bytes_at ends log k ≡ entry_bytes_at fins bytes k
bytes_at_same ends fins log bytes k e r = ap (λ o. some_else o None (λ b. Some (take (b.1 - b.0) (drop b.0 log)))) e ∙ by (bounds_of fins (length bytes) k) refl
  where
    by : (o : Option (ℕ × ℕ)) → bounds_of fins (length bytes) k ≡ o
        → some_else o None (λ b. Some (take (b.1 - b.0) (drop b.0 log))) ≡ some_else o None (λ b. Some (take (b.1 - b.0) (drop b.0 bytes)))
    by None q = refl
    by (Some (a, b)) q = ap Some (r a b (sym q))

-- how bytes lie that go behind the entries of a log
pub record Behind (l : Log) (bs : List ℕ) (start n : ℕ) : Type 0 where
  pub bytes : n ≡ length bs
  pub end : l.count < length l.ends
  pub begins : log_end l.ends l.count ≡ Some start
  pub room : start + n ≤ length l.bytes

-- bytes that went there
module _ (l : Log) (bs : List ℕ) (start n : ℕ) (s : SoundLog l) (p : Behind l bs start n) where
  abbrev fins : List ℕ
  fins = set l.ends l.count (start + n)

  abbrev log : List ℕ
  log = put_at start bs l.bytes

  length_log : length log ≡ length l.bytes
  length_log = length_put_at start bs l.bytes (omega (arith, p.bytes, p.room))

  fin_kept : (k : ℕ) → k < l.count → get_or fins k 0 ≡ get_or l.ends k 0
  fin_kept k h = get_or-set_other l.ends l.count k (start + n) 0 (omega arith)

  fin_new : get_or fins l.count 0 ≡ start + n
  fin_new = get_or-set_same l.ends l.count (start + n) 0 p.end

  -- the ends lie before the new entry
  ends_before : (k : ℕ) → k < l.count → get_or l.ends k 0 ≤ start
  ends_before k h =
      let q = s.1 k (l.count - 1) (omega arith) (omega arith) in
      omega (arith, log_end_is l.ends l.count start (omega arith) p.begins)

  log_end_kept : (k : ℕ) → k ≤ l.count → log_end fins k ≡ log_end l.ends k
  log_end_kept k h =
      let m = length-set l.ends l.count (start + n) in
      let f : 0 < k → get_or fins (k - 1) 0 ≡ get_or l.ends (k - 1) 0 = λ z. fin_kept (k - 1) (omega arith) in
      grind (arith, nat_tests)

  bounds_kept : (k : ℕ) → k < l.count → bounds_of fins (length log) k ≡ bounds_of l.ends (length l.bytes) k
  bounds_kept k h =
      let lies : Option ℕ → ℕ → ℕ → Option (ℕ × ℕ) = λ o x m. some_else {B = Option (ℕ × ℕ)} o None (λ a. cond {A = Option (ℕ × ℕ)} (leb a x && leb x m) (Some (a, x)) None) in
      ap (λ m. cond (ltb k m) (lies (log_end fins k) (get_or fins k 0) (length log)) None) (length-set l.ends l.count (start + n))
      ∙ ap (λ o. cond (ltb k (length l.ends)) (lies o (get_or fins k 0) (length log)) None) (log_end_kept k (omega arith))
      ∙ ap (λ x. cond (ltb k (length l.ends)) (lies (log_end l.ends k) x (length log)) None) (fin_kept k h)
      ∙ ap (λ m. cond (ltb k (length l.ends)) (lies (log_end l.ends k) (get_or l.ends k 0) m) None) length_log

  bytes_kept : (k : ℕ) → k < l.count → (a b : ℕ) → Some (a, b) ≡ bounds_of l.ends (length l.bytes) k → take (b - a) (drop a log) ≡ take (b - a) (drop a l.bytes)
  bytes_kept k h a b q =
      let w = bounds_are l.ends (length l.bytes) k a b q in
      read_below a (b - a) start bs l.bytes (omega (arith, w.0, w.1, ends_before k h)) (omega (arith, p.room))

  -- the others are as they were
  pub bytes_at_kept : (k : ℕ) → k < l.count → entry_bytes_at fins log k ≡ entry_bytes_at l.ends l.bytes k
  bytes_at_kept k h = bytes_at_same fins l.ends log l.bytes k (bounds_kept k h) (bytes_kept k h)

  -- and they stand behind them
  pub bytes_at_new : entry_bytes_at fins log l.count ≡ Some bs
  bytes_at_new =
      let long = length-set l.ends l.count (start + n) in
      let q = bounds_some fins (length log) l.count start (start + n) (omega (arith, p.end)) (log_end_kept l.count (omega arith) ∙ p.begins) fin_new (omega arith) (omega (arith, length_log, p.room)) in
      let m : start + n - start ≡ length bs = omega (arith, p.bytes) in
      ap (λ o. some_else o None (λ b. Some (take (b.1 - b.0) (drop b.0 log)))) (sym q)
      ∙ ap Some (ap (λ j. take j (drop start log)) m ∙ read_put start bs l.bytes (omega (arith, p.room)))

  pub end_new : log_end fins (l.count + 1) ≡ Some (start + n)
  end_new =
      let long = length-set l.ends l.count (start + n) in
      let z : l.count + 1 - 1 ≡ l.count = omega arith in
      let f : get_or fins (l.count + 1 - 1) 0 ≡ start + n = ap (λ j. get_or fins j 0) z ∙ fin_new in
      let h = p.end in
      grind (arith, nat_tests)

  fin_below : (k : ℕ) → k < l.count + 1 → get_or fins k 0 ≤ start + n
  fin_below k h = by (cases_eq k l.count)
    where
      by : (k ≡ l.count) ⊎ (k ≡ l.count → ⊥) → get_or fins k 0 ≤ start + n
      by (inl q) = omega (arith, ap (λ j. get_or fins j 0) q, fin_new)
      by (inr q) = omega (arith, fin_kept k (omega arith), ends_before k (omega arith))

  fins_rise : (j k : ℕ) → j ≤ k → k < l.count + 1 → get_or fins j 0 ≤ get_or fins k 0
  fins_rise j k a b = by (cases_eq k l.count)
    where
      by : (k ≡ l.count) ⊎ (k ≡ l.count → ⊥) → get_or fins j 0 ≤ get_or fins k 0
      by (inl q) = omega (arith, ap (λ i. get_or fins i 0) q, fin_new, fin_below j (omega arith))
      by (inr q) = omega (arith, fin_kept j (omega arith), fin_kept k (omega arith), s.1 j k a (omega arith))

  pub still_sound : SoundLog (record { count = l.count + 1; ends = fins; bytes = log })
  still_sound =
      (omega (arith, p.end, length-set l.ends l.count (start + n)), fins_rise, λ k h. omega (arith, fin_below k h, length_log, p.room))

-- the entry of bytes
entry_of_bytes : (count : ℕ) (ends log : List ℕ) (k : ℕ) (o : Option (List ℕ)) → k < count → entry_bytes_at ends log k ≡ o → entry_at count ends log k ≡ some_else o None (entry_placed k)
unfolding entry_at
entry_of_bytes count ends log k o h e =
    ap (λ t. cond t (some_else (entry_bytes_at ends log k) None (entry_placed k)) None) (lt-ltb k count h) ∙ ap (λ x. some_else x None (entry_placed k)) e

-- an entry that was put
module _ (l : Log) (e : LogEntry) (start n : ℕ) (s : SoundLog l) (p : Placed e l.count l.ends (length l.bytes) start n) where
  abbrev after : Log
  after = record { count = l.count + 1; ends = set l.ends l.count (start + n); bytes = put_at start (entry_bytes e) l.bytes }

  there : Behind l (entry_bytes e) start n
  there = record { bytes = p.bytes; end = p.end; begins = p.begins; room = omega (arith, p.inside, p.room) }

  -- the others are as they were
  pub entry_kept : (k : ℕ) → k < l.count → entry_under after k ≡ entry_under l k
  entry_kept k h =
      entry_of_bytes (l.count + 1) after.ends after.bytes k (entry_bytes_at l.ends l.bytes k) (omega arith) (bytes_at_kept l (entry_bytes e) start n s there k h)
      ∙ sym (entry_of_bytes l.count l.ends l.bytes k (entry_bytes_at l.ends l.bytes k) h refl)

  -- it is found behind them
  pub entry_new : entry_under after l.count ≡ Some e
  unfolding writable
  entry_new =
      let back : entry_in (entry_bytes e) ≡ Some e = come_back e (and_parts (entry_fits e) _ p.writes).0 in
      entry_of_bytes (l.count + 1) after.ends after.bytes l.count (Some (entry_bytes e)) (omega arith) (bytes_at_new l (entry_bytes e) start n s there)
      ∙ sym (placed_here l.count (entry_bytes e) e (sym back) p.place)

  pub sound_after : SoundLog after
  sound_after = still_sound l (entry_bytes e) start n s there

-- an entry that was told to be put was placed
was_placed : (l m : Log) (e : LogEntry) (v : ℕ) → ◌≡◌ {A = Result ℕ Unput × Log} (Ok v, m) (put_entry e l)
    → (start : ℕ) × (n : ℕ) × Placed e l.count l.ends (length l.bytes) start n × (v ≡ l.count + 1)
    × (m ≡ record { count = l.count + 1; ends = set l.ends l.count (start + n); bytes = put_at start (entry_bytes e) l.bytes })
unfolding put_entry
was_placed l m e v p = by (place_for e l.count l.ends (length l.bytes)) refl p
  where
    by : (r : Result (ℕ × ℕ) Unput) → place_for e l.count l.ends (length l.bytes) ≡ r → ◌≡◌ {A = Result ℕ Unput × Log} (Ok v, m) (put_there e l r)
        → (start : ℕ) × (n : ℕ) × Placed e l.count l.ends (length l.bytes) start n × (v ≡ l.count + 1)
        × (m ≡ record { count = l.count + 1; ends = set l.ends l.count (start + n); bytes = put_at start (entry_bytes e) l.bytes })
    by (Ok (start, n)) q r =
        let h : ◌≡◌ {A = Result ℕ Unput} (Ok v) (Ok (l.count + 1)) = ap (λ (x : Result ℕ Unput × Log). x.0) r in
        let w : v ≡ l.count + 1 = cc in
        (start, n, placed e l.count l.ends (length l.bytes) start n (sym q), w, ap (λ (x : Result ℕ Unput × Log). x.1) r)
    by (Err u) q r = absurd (let h : ◌≡◌ {A = Result ℕ Unput} (Ok v) (Err u) = ap (λ (x : Result ℕ Unput × Log). x.0) r in let z : ◌≡◌ {A = ℕ} 0 1 = cc in omega arith)

pub entries_never_change : EntriesNeverChange
entries_never_change l m e v s p =
    let w = was_placed l m e v p in
    let count : m.count ≡ l.count + 1 = ap (λ (x : Log). x.count) w.4 in (
      w.3 ∙ sym count,
      count,
      ap (λ (x : Log). entry_under x l.count) w.4 ∙ entry_new l e w.0 w.1 s w.2,
      λ k h. ap (λ (x : Log). entry_under x k) w.4 ∙ entry_kept l e w.0 w.1 s w.2 k h,
      subst (λ (x : Log). SoundLog x) (sym w.4) (sound_after l e w.0 w.1 s w.2),
    )
