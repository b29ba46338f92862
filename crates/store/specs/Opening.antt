-- The numbers of a store, and what opening it makes of them.
use Rattle.std.specs.Prelude.{ℕ, ◌^◌, cond, ◌||◌, List, length, replicate, Ok, Err, Result, ◌==◌, nat_lt}
use Rattle.rows.specs.declared.refusal.Refusal.{Refusal}
use Rattle.rows.specs.declared.refusal.Refusal.TheVariants.{NoRoom, LogFull}
use Rattle.rows.specs.Checks.{and_then}
use Rattle.rows.specs.Refusals.{horizon_from}
use Rattle.store.specs.declared.Store.{Store}

pub record Numbers : Type 0 where
  pub horizon : ℕ
  pub next : ℕ
  pub entries : ℕ
  pub most_rows : ℕ

abbrev pub numbers : Store → Numbers
numbers s = record { horizon = s.horizon; next = s.next; entries = s.entries; most_rows = s.most_rows }

abbrev pub numbers_of : Result Store Refusal → Result Numbers Refusal
numbers_of (Ok s) = Ok (numbers s)
numbers_of (Err e) = Err e

-- a store by its four numbers; the most rows of a file are 1 to 65,536
abbrev pub reopened : ℕ → ℕ → ℕ → ℕ → Result Numbers Refusal
reopened horizon next entries most =
    and_then (horizon_from horizon) (λ h.
    cond (most == 0 || nat_lt 65536 most) (Err (NoRoom 0))
    (cond (nat_lt (2 ^ 32) next) (Err (NoRoom 0))
    (cond (nat_lt 65536 entries) (Err LogFull)
    (Ok (record { horizon = h; next = next; entries = entries; most_rows = most })))))

-- what the directory holds afterwards
abbrev pub cleared : Result Numbers Refusal → List ℕ → List ℕ
cleared (Ok s) directory = replicate (length directory) 0
cleared (Err e) directory = directory

abbrev pub opened : ℕ → ℕ → List ℕ → Result Numbers Refusal × List ℕ
opened horizon most directory = (reopened horizon 0 0 most, cleared (reopened horizon 0 0 most) directory)
