-- A table as it lies in memory: the numbers of its store, the four lent slices, and its writers.
use Rattle.std.specs.Prelude.{ℕ, List, map, Some, None, Option, slice_set}
use Rattle.codec.specs.Entries.{TableChange, change_of}
use Rattle.store.specs.Log.{Log, log_of}
use Rattle.store.specs.Putting.{Files, files_of}
use Rattle.writers.specs.declared.Table.{Table}
use Rattle.writers.specs.declared.writer.Draft.{Draft}
use Rattle.writers.specs.declared.writer.Writer.{Writer}
use Rattle.writers.specs.declared.writer.Writer.TheVariants.{Idle, Ready}

-- what a ready writer holds
pub record Pending : Type 0 where
  pub began : ℕ
  pub looked : ℕ
  pub serial : ℕ
  pub change : TableChange

abbrev pub pending_of : Draft → Pending
pending_of d = record { began = d.began; looked = d.entry.place; serial = d.entry.serial; change = change_of d.entry.change }

-- none where the writer is idle
abbrev pub held_by : Writer → Option Pending
held_by Idle = None
held_by (Ready d) = Some (pending_of d)

pub record Memory : Type 0 where
  pub horizon : ℕ
  pub files : Files
  pub log : Log
  pub writers : List (Option Pending)

abbrev pub memory_of : Table → List ℕ → List ℕ → List ℕ → List ℕ → Memory
memory_of t directory files ends log = record {
  horizon = t.store.horizon;
  files = files_of t.store directory files;
  log = log_of t.store ends log;
  writers = map held_by t.writers;
}

abbrev pub with_pending : Memory → ℕ → Option Pending → Memory
with_pending m w p = record { horizon = m.horizon; files = m.files; log = m.log; writers = slice_set m.writers w p }
