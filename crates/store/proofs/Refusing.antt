-- What is promised of a store that was opened, and of puts that are refused.
use Rattle.std.proofs.Common.{◌≡◌, ℕ, ◌+◌, ◌*◌, ◌^◌, ◌<◌, Bool, true, false, cond, ◌||◌, eqb, ltb, List, length, replicate, Some, None, Ok, Err, Option, Result, sym, refl, ap, ◌∙◌, subst, arith}
use Rattle.std.proofs.lemmas.List.{get_or-replicate, length-replicate}
use Rattle.std.proofs.lemmas.Bool.{lt-ltb}
use Rattle.rows.specs.declared.refusal.Refusal.{Refusal}
use Rattle.rows.specs.declared.refusal.Refusal.TheVariants.{NoRoom}
use Rattle.rows.specs.Checks.{some_else, and_then}
use Rattle.rows.specs.Refusals.{horizon_from}
use Rattle.codec.specs.declared.entry.Added.{Added}
use Rattle.codec.specs.declared.write.Written.{Written}
use Rattle.codec.specs.Entries.{LogEntry}
use Rattle.codec.specs.Rewrites.{rewrite_done}
use Rattle.store.specs.declared.Store.{Store}
use Rattle.store.specs.declared.unput.Unput.{Unput}
use Rattle.store.specs.declared.unput.Unput.TheVariants.{NumberTaken}
use Rattle.store.specs.Log.{Log, SoundLog, place_for, put_there, put_entry}
use Rattle.store.specs.Opening.{Numbers, numbers, numbers_of, reopened, cleared}
use Rattle.store.specs.Putting.{Files, no_room, next_slot, in_slot, put_by, slot_of, slot_part, lent_in, put_rows, put_rewritten}
use Rattle.store.specs.Slots.{slots, mark_at, slot_with, stored}
use Rattle.store.specs.StoreLaws.{WhatIsOpenedIsEmpty, WhatIsRefusedChangesNothing, ATakenNumberIsRefused}
use Rattle.store.proofs.LogKeeping.{empty_log_sound}
use Rattle.store.proofs.LogLaws.{entry_beyond}
use Rattle.store.proofs.Searches.{slot_none, slot_each}
use Rattle.store.proofs.SlotLaws.{slot_inside, stored_nowhere}

-- a put by whatever writes the file, where it is refused
not_put : (s t : Files) (u : Unput) (write : ℕ → Option Written × List ℕ) (r : Result ℕ Unput) → ◌≡◌ {A = Result Added Unput × Files} (Err u, t) (put_by s write r) → t ≡ s
not_put s t u write (Ok i) e = by (write i).0 (write i).1 e
  where
    by : (o : Option Written) (bytes : List ℕ) → ◌≡◌ {A = Result Added Unput × Files} (Err u, t) (in_slot s i (o, bytes)) → t ≡ s
    by None bytes q = ap (λ (x : Result Added Unput × Files). x.1) q
    by (Some told) bytes q =
        absurd (let h : ◌≡◌ {A = Result Added Unput} (Err u) (Ok (record { number = s.next; keys = told.keys })) = ap (λ (x : Result Added Unput × Files). x.0) q in let z : ◌≡◌ {A = ℕ} 0 1 = cc in omega arith)
not_put s t u write (Err v) e = ap (λ (x : Result Added Unput × Files). x.1) e

entry_not_put : (l m : Log) (u : Unput) (e : LogEntry) (r : Result (ℕ × ℕ) Unput) → ◌≡◌ {A = Result ℕ Unput × Log} (Err u, m) (put_there e l r) → m ≡ l
entry_not_put l m u e (Ok p) q =
    absurd (let h : ◌≡◌ {A = Result ℕ Unput} (Err u) (Ok (l.count + 1)) = ap (λ (x : Result ℕ Unput × Log). x.0) q in let z : ◌≡◌ {A = ℕ} 0 1 = cc in omega arith)
entry_not_put l m u e (Err v) q = ap (λ (x : Result ℕ Unput × Log). x.1) q

pub what_is_refused_changes_nothing : WhatIsRefusedChangesNothing
unfolding put_rows put_rewritten put_entry
what_is_refused_changes_nothing = (
  λ s t u began lent e. not_put s t u (λ i. lent_in s.next began lent (slot_part s.most i) s.bytes) (slot_of s) e,
  λ s t u began sources w e. not_put s t u (λ i. rewrite_done w s.bytes sources (slot_part s.most i) s.next began) (slot_of s) e,
  λ l m u e q. entry_not_put l m u e (place_for e l.count l.ends (length l.bytes)) q,
)

-- a number that some slot bears
number_taken : (next : ℕ) (d : List ℕ) (n i : ℕ) → next < 2 ^ 32 → i < n → mark_at d i ≡ next + 1 → next_slot next d n ≡ Err NumberTaken
number_taken next d n i h l e = by (slot_with d n (next + 1)) refl
  where
    by : (o : Option ℕ) → slot_with d n (next + 1) ≡ o → next_slot next d n ≡ Err NumberTaken
    by None q = absurd (slot_each d n (next + 1) (sym q) i l e)
    by (Some j) q =
        ap (λ b. cond b (some_else (slot_with d n (next + 1)) (some_else (slot_with d n 0) (no_room next d n) (λ j. Ok j)) (λ _. Err NumberTaken)) (no_room next d n)) (lt-ltb next (2 ^ 32) h)
        ∙ ap (λ o. some_else o (some_else (slot_with d n 0) (no_room next d n) (λ j. Ok j)) (λ _. Err NumberTaken)) q

pub a_taken_number_is_refused : ATakenNumberIsRefused
unfolding put_rows put_rewritten
a_taken_number_is_refused s i h l e =
    let t = number_taken s.next s.directory (slots s.most (length s.directory) (length s.bytes)) i h l e in (
      λ began lent. ap (put_by s (λ i. lent_in s.next began lent (slot_part s.most i) s.bytes)) t,
      λ began sources w. ap (put_by s (λ i. rewrite_done w s.bytes sources (slot_part s.most i) s.next began)) t,
    )

-- opening makes a store with nothing in it
opened_numbers : (horizon most : ℕ) (s : Store) → Ok (numbers s) ≡ reopened horizon 0 0 most → s.entries ≡ 0
opened_numbers horizon most s e = by (horizon_from horizon) (eqb most 0 || ltb 65536 most) e
  where
    by : (r : Result ℕ Refusal) (b : Bool) → Ok (numbers s) ≡ and_then r (λ h. cond {A = Result Numbers Refusal} b (Err (NoRoom 0)) (Ok (record { horizon = h; next = 0; entries = 0; most_rows = most }))) → s.entries ≡ 0
    by (Ok h) true q = absurd (let z : ◌≡◌ {A = ℕ} 0 1 = cc in omega arith)
    by (Ok h) false q = let k : numbers s ≡ record { horizon = h; next = 0; entries = 0; most_rows = most } = cc in ap (λ (x : Numbers). x.entries) k
    by (Err u) b q = absurd (let z : ◌≡◌ {A = ℕ} 0 1 = cc in omega arith)

free_none : (most k : ℕ) (d fs : List ℕ) (n : ℕ) → d ≡ replicate k 0 → stored most d fs n ≡ None
free_none most k d fs n e = sym (stored_nowhere most d fs n (slots most (length d) (length fs)) refl (sym (slot_none d (slots most (length d) (length fs)) (n + 1) unmarked)))
  where
    unmarked : (j : ℕ) → j < slots most (length d) (length fs) → mark_at d j ≡ n + 1 → ⊥
    unmarked j l q =
        let p = slot_inside most (length d) (length fs) j l in
        let long : length d ≡ k = ap length e ∙ length-replicate {A = ℕ} k 0 in
        let z : mark_at d j ≡ 0 = ap (λ c. mark_at c j) e ∙ get_or-replicate {A = ℕ} k (2 * j) 0 0 (omega (arith, p.0)) in
        omega arith

pub what_is_opened_is_empty : WhatIsOpenedIsEmpty
what_is_opened_is_empty s horizon most before directory bytes ends log e =
    let p : numbers_of (Ok s) ≡ reopened horizon 0 0 most = ap (λ (x : Result Numbers Refusal × List ℕ). x.0) e in
    let q : directory ≡ replicate (length before) 0 = ap (λ (x : Result Numbers Refusal × List ℕ). x.1) e ∙ ap (λ r. cleared r before) (sym p) in
    let z = opened_numbers horizon most s p in (
      λ n. free_none s.most_rows (length before) directory bytes n q,
      λ k. sym (entry_beyond s.entries ends log k (omega arith)),
      subst (λ (c : ℕ). SoundLog (record { count = c; ends = ends; bytes = log })) (sym z) (empty_log_sound ends log),
    )
