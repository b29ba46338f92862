-- A table as it is opened: every writer is idle.
use Rattle.std.specs.Prelude.{ℕ, List, replicate, None, Ok, Err, Result}
use Rattle.rows.specs.declared.refusal.Refusal.{Refusal}
use Rattle.rows.specs.Checks.{and_then}
use Rattle.store.specs.Opening.{Numbers, reopened, cleared}
use Rattle.writers.specs.declared.Table.{Table}
use Rattle.writers.specs.Memory.{Memory, memory_of}

-- the memory of a table that was opened, or why there is none
abbrev pub memory_in : Result Table Refusal → List ℕ → List ℕ → List ℕ → List ℕ → Result Memory Refusal
memory_in (Ok t) d fs es l = Ok (memory_of t d fs es l)
memory_in (Err e) d fs es l = Err e

-- a table at which nobody writes
abbrev pub at_rest : Numbers → List ℕ → List ℕ → List ℕ → List ℕ → Memory
at_rest n d fs es l = record {
  horizon = n.horizon;
  files = record { most = n.most_rows; next = n.next; directory = d; bytes = fs };
  log = record { count = n.entries; ends = es; bytes = l };
  writers = replicate 16 None;
}

abbrev pub table_reopened : ℕ → ℕ → ℕ → ℕ → List ℕ → List ℕ → List ℕ → List ℕ → Result Memory Refusal
table_reopened horizon next entries most d fs es l = and_then (reopened horizon next entries most) (λ n. Ok (at_rest n d fs es l))

abbrev pub table_opened : ℕ → ℕ → List ℕ → List ℕ → List ℕ → List ℕ → Result Memory Refusal × List ℕ
table_opened horizon most d fs es l =
    let now = cleared (reopened horizon 0 0 most) d in
    (table_reopened horizon 0 0 most now fs es l, now)
