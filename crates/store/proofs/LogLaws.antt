-- Entries of a log, as they are read and put.
use Rattle.std.proofs.Common.{◌≡◌, ℕ, ◌+◌, ◌-◌, ◌<◌, ◌≤◌, Bool, true, false, cond, eqb, leb, List, ◌++◌, length, take, drop, set, Some, None, Ok, Err, Option, Result, sym, refl, ap, ◌∙◌, arith}
use Rattle.std.proofs.lemmas.Bool.{lt-ltb, le-ltb, le-leb, eq-eqb}
use Rattle.std.proofs.lemmas.List.{take_rest, length-drop}
use Rattle.std.proofs.lemmas.Bool.Decides.{nat_tests}
use Rattle.rows.specs.Checks.{some_else}
use Rattle.std.specs.Option.{option_map}
use Rattle.rows.specs.declared.refusal.Refusal.{Refusal}
use Rattle.codec.specs.declared.entry.Entry.{Entry}
use Rattle.codec.specs.Entries.{LogEntry, entry_of, entry_in, entry_bytes, writable, entry_written}
use Rattle.codec.specs.Words.{put_at}
use Rattle.codec.proofs.WordLaws.{lent_on}
use borrow.Rule.Slice.PartMut.{put_mid}
use Rattle.store.specs.declared.unput.Unput.{Unput}
use Rattle.store.specs.Log.{log_end, entry_bytes_at, entry_placed, entry_at, place_for, Log, put_there, put_entry}

module _ (count : ℕ) (ends log : List ℕ) (k : ℕ) where
  pub entry_beyond : count ≤ k → None ≡ entry_at count ends log k
  unfolding entry_at
  entry_beyond h = rw (le-ltb k count h)

  module _ (h : k < count) where
    within : some_else (entry_bytes_at ends log k) None (entry_placed k) ≡ entry_at count ends log k
    unfolding entry_at
    within = ap (λ t. cond t (some_else (entry_bytes_at ends log k) None (entry_placed k)) None) (sym (lt-ltb k count h))

    pub entry_unbounded : None ≡ entry_bytes_at ends log k → None ≡ entry_at count ends log k
    entry_unbounded e = ap (λ o. some_else o None (entry_placed k)) e ∙ within

    -- what was read of the entry's bytes, if it bears the place
    pub entry_kept : (bs : List ℕ) (read kept : Option Entry) → Some bs ≡ entry_bytes_at ends log k → ◌≡◌ {A = Result (Option LogEntry) Refusal} (Ok (option_map entry_of read)) (Ok (entry_in bs))
        → (read ≡ None → kept ≡ None) → ((x : Entry) → read ≡ Some x → kept ≡ cond (eqb x.place k) (Some x) None)
        → option_map entry_of kept ≡ entry_at count ends log k
    entry_kept bs read kept e r none some =
        by read none some ∙ ap (λ o. some_else o None placed_so) is ∙ ap (λ o. some_else o None (entry_placed k)) e ∙ within
      where
        placed_so : LogEntry → Option LogEntry
        placed_so x = cond (eqb x.place k) (Some x) None

        is : option_map entry_of read ≡ entry_in bs
        is = cc

        told : (x : Entry) (b : Bool) → option_map entry_of (cond b (Some x) None) ≡ cond b (Some (entry_of x)) None
        told x true = refl
        told x false = refl

        by : (o : Option Entry) → (o ≡ None → kept ≡ None) → ((x : Entry) → o ≡ Some x → kept ≡ cond (eqb x.place k) (Some x) None) → option_map entry_of kept ≡ some_else (option_map entry_of o) None placed_so
        by None n m = ap (option_map entry_of) (n refl)
        by (Some x) n m = ap (option_map entry_of) (m x refl) ∙ told x (eqb x.place k)

pub placed_none : (k : ℕ) (bs : List ℕ) → None ≡ entry_in bs → None ≡ entry_placed k bs
placed_none k bs e = ap (λ o. some_else o None (λ x. cond (eqb x.place k) (Some x) None)) e

pub placed_here : (k : ℕ) (bs : List ℕ) (x : LogEntry) → Some x ≡ entry_in bs → x.place ≡ k → Some x ≡ entry_placed k bs
placed_here k bs x e h =
    ap (λ b. cond b (Some x) None) (sym (eq-eqb x.place k h)) ∙ ap (λ o. some_else o None (λ y. cond (eqb y.place k) (Some y) None)) e

-- what is known of an entry that can be put
pub record Placed (e : LogEntry) (count : ℕ) (ends : List ℕ) (long start n : ℕ) : Type 0 where
  pub few : count < 65536
  pub place : e.place ≡ count
  pub writes : writable e ≡ true
  pub bytes : n ≡ length (entry_bytes e)
  pub end : count < length ends
  pub begins : log_end ends count ≡ Some start
  pub inside : start ≤ long
  pub room : n ≤ long - start

pub placed : (e : LogEntry) (count : ℕ) (ends : List ℕ) (long start n : ℕ) → Ok (start, n) ≡ place_for e count ends long → Placed e count ends long start n
placed e count ends long start n p =
    record {
      few = grind (arith, nat_tests);
      place = grind (arith, nat_tests);
      writes = grind (arith, nat_tests);
      bytes = grind (arith, nat_tests);
      end = grind (arith, nat_tests);
      begins = grind (arith, nat_tests);
      inside = grind (arith, nat_tests);
      room = grind (arith, nat_tests);
    }

pub put_not : (e : LogEntry) (l : Log) (u : Unput) → Err u ≡ place_for e l.count l.ends (length l.bytes) → ◌≡◌ {A = Result ℕ Unput × Log} (Err u, l) (put_entry e l)
unfolding put_entry
put_not e l u p = ap (put_there e l) p

pub put_done : (e : LogEntry) (l : Log) (start n : ℕ) (o : Option ℕ) (zs : List ℕ) → Ok (start, n) ≡ place_for e l.count l.ends (length l.bytes)
    → ◌≡◌ {A = Option ℕ × List ℕ} (o, zs) (entry_written e (take (length l.bytes - start) (drop start l.bytes)))
    → ◌≡◌ {A = Result ℕ Unput × Log} (Ok (l.count + 1), record { count = l.count + 1; ends = set l.ends l.count (start + n); bytes = put_mid start (length l.bytes - start) l.bytes zs }) (put_entry e l)
unfolding put_entry
put_done e l start n o zs p q =
    let r = placed e l.count l.ends (length l.bytes) start n p in
    let part = take (length l.bytes - start) (drop start l.bytes) in
    let long : length (take (length l.bytes - start) (drop start l.bytes)) ≡ length l.bytes - start = ap length (take_rest l.bytes start) ∙ length-drop start l.bytes in
    let fits : leb (length (entry_bytes e)) (length (take (length l.bytes - start) (drop start l.bytes))) ≡ true = le-leb (length (entry_bytes e)) (length part) (omega (arith, long, r.bytes, r.room)) in
    let w : entry_written e (take (length l.bytes - start) (drop start l.bytes)) ≡ (Some (length (entry_bytes e)), entry_bytes e ++ drop (length (entry_bytes e)) (take (length l.bytes - start) (drop start l.bytes))) =
    rw (r.writes, fits) in
    let z : zs ≡ entry_bytes e ++ drop (length (entry_bytes e)) (take (length l.bytes - start) (drop start l.bytes)) = ap (λ (x : Option ℕ × List ℕ). x.1) (q ∙ w) in
    let after : put_mid start (length l.bytes - start) l.bytes zs ≡ put_at start (entry_bytes e) l.bytes = lent_on start l.bytes (entry_bytes e) zs r.inside z in
    ap (λ b. (Ok (l.count + 1), record { count = l.count + 1; ends = set l.ends l.count (start + n); bytes = b })) after ∙ ap (put_there e l) p
