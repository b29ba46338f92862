-- What an order does to rows, and how many it touches.
use Rattle.std.specs.Prelude.{ℕ, ◌+◌, Bool, false, cond, ◌&&◌, List, ◌++◌, length, Ok, Err, Result, nat_le}
use Rattle.rows.specs.declared.refusal.Refusal.{Refusal}
use Rattle.rows.specs.declared.refusal.Refusal.TheVariants.{TooLarge}
use Rattle.rows.specs.declared.row.Row.{Row}
use Rattle.rows.specs.declared.span.Span.{Span}
use Rattle.rows.specs.Checks.{any}
use Rattle.rows.specs.Rows.{amount_limit, within, outside, raised, many_within}

-- an order with its rows, without bounds
pub data Order : Type 0 where
  insert : List Row → Order
  erase : Span → Order
  -- so much is added to the amounts
  raise : Span → ℕ → Order
  -- files of at most so many rows become one
  pack : ℕ → Order

unfoldable pub done_to : Order → List Row → List Row
done_to (insert new) rs = rs ++ new
done_to (erase s) rs = outside s rs
done_to (raise s n) rs = raised s n rs
done_to (pack m) rs = rs

unfoldable pub touched : Order → List Row → ℕ
touched (insert new) rs = length new
touched (erase s) rs = many_within s rs
touched (raise s n) rs = many_within s rs
touched (pack m) rs = 0

-- whether a row in the span cannot be raised by so much
abbrev pub passes_limit : Span → ℕ → List Row → Bool
passes_limit s n rs = any (λ r. within s r && nat_le amount_limit (r.amount + n)) rs

abbrev pub too_large : Order → List Row → Bool
too_large (insert new) rs = false
too_large (erase s) rs = false
too_large (raise s n) rs = passes_limit s n rs
too_large (pack m) rs = false

-- the rows after an order, and how many it touched
pub record Outcome : Type 0 where
  pub rows : List Row
  pub touched : ℕ

abbrev pub outcome_of : Order → List Row → Outcome
outcome_of o rs = record { rows = done_to o rs; touched = touched o rs }

abbrev pub applied : Order → List Row → Result Outcome Refusal
applied o rs = cond (too_large o rs) (Err (TooLarge 0)) (Ok (outcome_of o rs))
