-- The opening of a day, and what is said to it.
use Rattle.std.specs.Prelude.{ℕ, ◌+◌, ◌*◌, cond, List, [], ◌++◌, length, Ok, Err, codes, Result, nat_le, slice_index}
use Rattle.rows.specs.declared.refusal.Refusal.{Refusal}
use Rattle.rows.specs.declared.refusal.Refusal.TheVariants.{NoSuchOrder}
use Rattle.rows.specs.Refusals.{horizon_from, text_of}

-- the number in the first four bytes, low byte first
abbrev pub first_number : List ℕ → ℕ
first_number xs = slice_index xs 0 + slice_index xs 1 * 256 + slice_index xs 2 * 65536 + slice_index xs 3 * 16777216

-- the horizon of a day; one that is cut short is no order at 0
abbrev pub opened : List ℕ → Result ℕ Refusal
opened xs = cond (nat_le 4 (length xs)) (horizon_from (first_number xs)) (Err (NoSuchOrder 0))

abbrev pub said_of : Result ℕ Refusal → List ℕ
said_of (Ok h) = []
said_of (Err e) = text_of e ++ codes "\n"

abbrev pub lines_of : List ℕ → List ℕ
lines_of xs = said_of (opened xs)
