-- The writers of a table, one by one.
use Rattle.std.proofs.Common.{arith, ◌≡◌, ℕ, ◌<◌, List, map, length, get_or, set, None, Err, Result, sym, ap, ◌∙◌}
use Rattle.std.proofs.lemmas.List.{get_or-map, map-set, set-set, set-get_or}
use Rattle.codec.specs.Entries.{LogEntry}
use Rattle.store.specs.declared.Store.{Store}
use Rattle.store.specs.declared.unput.Unput.{Unput}
use Rattle.store.specs.Log.{Log, log_of, put_entry}
use Rattle.store.proofs.Refusing.{what_is_refused_changes_nothing}
use Rattle.store.specs.Putting.{files_of}
use Rattle.writers.specs.declared.Table.{Table}
use Rattle.writers.specs.declared.writer.Writer.{Writer}
use Rattle.writers.specs.Deeds.{entry_for}
use Rattle.writers.specs.Memory.{Pending, held_by, memory_of, with_pending}

-- a table of which one writer is given another value
module _ (t : Table) (w i : ℕ) (at : i ≡ w) where
  held_set : (x : Writer) → map held_by (set t.writers i x) ≡ set (map held_by t.writers) w (held_by x)
  held_set x = map-set held_by t.writers i x ∙ ap (λ k. set (map held_by t.writers) k (held_by x)) at

  pub held_reset : (x y : Writer) → map held_by (set (set t.writers i x) i y) ≡ set (map held_by t.writers) w (held_by y)
  held_reset x y = ap (map held_by) (set-set t.writers i x y) ∙ held_set y

  module _ (d fs es l : List ℕ) where
    pub memory_set : (x : Writer) → memory_of (record { store = t.store; writers = set t.writers i x }) d fs es l ≡ with_pending (memory_of t d fs es l) w (held_by x)
    memory_set x j = record { horizon = t.store.horizon; files = files_of t.store d fs; log = log_of t.store es l; writers = held_set x j }

    pub memory_reset : (x y : Writer) → memory_of (record { store = t.store; writers = set (set t.writers i x) i y }) d fs es l ≡ with_pending (memory_of t d fs es l) w (held_by y)
    memory_reset x y j = record { horizon = t.store.horizon; files = files_of t.store d fs; log = log_of t.store es l; writers = held_reset x y j }

-- that the code read what a writer is; x is what it reads where there is none
pub record Found (t : Table) (w i : ℕ) (x held : Writer) : Type 0 where
  pub at : i ≡ w
  pub below : i < 16
  pub within : i < length t.writers
  pub read : get_or t.writers i x ≡ held

module _ {t : Table} {w i : ℕ} {x held : Writer} (f : Found t w i x held) where
  pub found_there : w < 16
  found_there = omega (arith, f.at, f.below)

  pub found_held : held_by held ≡ get_or (map held_by t.writers) w None
  found_held = ap held_by (sym f.read) ∙ sym (get_or-map held_by t.writers i x None f.within) ∙ ap (λ k. get_or (map held_by t.writers) k None) f.at

  pub found_still : (y : Writer) → held_by y ≡ held_by held → map held_by (set t.writers i y) ≡ map held_by t.writers
  found_still y e = held_set t w i f.at y ∙ ap (set (map held_by t.writers) w) (e ∙ found_held) ∙ set-get_or (map held_by t.writers) w None

  pub memory_still : (d fs es l : List ℕ) (y : Writer) → held_by y ≡ held_by held → memory_of (record { store = t.store; writers = set t.writers i y }) d fs es l ≡ memory_of t d fs es l
  memory_still d fs es l y e j = record { horizon = t.store.horizon; files = files_of t.store d fs; log = log_of t.store es l; writers = found_still y e j }

-- a store after a put of an entry has the files that it had
pub files_same : (s t : Store) (d fs : List ℕ) → t.next ≡ s.next → t.most_rows ≡ s.most_rows → files_of t d fs ≡ files_of s d fs
files_same s t d fs n k i = record { most = k i; next = n i; directory = d; bytes = fs }

-- the entry that the code puts is the one that is meant
pub put_as : (s : Store) (ends log : List ℕ) (w i : ℕ) (p : Pending) (r : Result ℕ Unput × Log) → i ≡ w → p.looked ≡ s.entries
    → r ≡ put_entry (record { place = p.looked; writer = i; serial = p.serial; change = p.change }) (log_of s ends log) → r ≡ put_entry (entry_for w s.entries p) (log_of s ends log)
put_as s ends log w i p r a b e = e ∙ λ j. put_entry (record { place = b j; writer = a j; serial = p.serial; change = p.change }) (log_of s ends log)

-- what a put that is refused leaves of the log
pub unput_log : (e : LogEntry) (l after : Log) (u : Unput) → ◌≡◌ {A = Result ℕ Unput × Log} (Err u, after) (put_entry e l) → after ≡ l
unput_log e l after u h = what_is_refused_changes_nothing.2 l after u e h
