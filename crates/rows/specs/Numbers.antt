-- Orders as numbers: kind, then count, key and amount of each row (0 insert), from and to (1 erase), from, to and n (2 raise), or m (3 pack).
use Rattle.std.specs.Prelude.{◌≡◌, ℕ, zero, suc, ◌+◌, ◌*◌, ◌^◌, cond, List, [], ◌∷◌, length, drop, Some, None, Ok, Err, vec_items, Option, Result, ◌==◌, nat_le, nat_lt, slice_index}
use Rattle.rows.specs.declared.refusal.Refusal.{Refusal}
use Rattle.rows.specs.declared.refusal.Refusal.TheVariants.{NoSuchOrder}
use Rattle.rows.specs.declared.row.Row.{Row}
use Rattle.rows.specs.declared.span.Span.{Span}
use Rattle.rows.specs.declared.apply.Applied.{Applied}
use Rattle.rows.specs.declared.order.Order.{Order as CodeOrder}
use Rattle.rows.specs.declared.order.Order.TheVariants.{Insert, Erase, Raise, Pack}
use Rattle.rows.specs.Checks.{some_else, and_then}
use Rattle.rows.specs.Orders.{Order, insert, erase, raise, pack, Outcome, applied}
use Rattle.rows.specs.Refusals.{UnlessOut}
use Rattle.rows.specs.Rows.{amount_limit}

abbrev pub key_limit : ℕ
key_limit = 2 ^ 32

-- the most rows of one insert
abbrev pub most_inserted : ℕ
most_inserted = 1024

abbrev pub number_at : List ℕ → ℕ → Option ℕ
number_at xs i = cond (nat_lt i (length xs)) (Some (slice_index xs i)) None

-- the number at an index, if it is there and below a limit
abbrev pub below_at : ℕ → List ℕ → ℕ → Option ℕ
below_at limit xs i = some_else (number_at xs i) None (λ n. cond (nat_lt n limit) (Some n) None)

-- the refusal of an order whose first number at fault stands at an index
abbrev pub fault : {A : Type 0} → ℕ → Result A Refusal
fault i = Err (NoSuchOrder i)

abbrev pub row : ℕ → ℕ → Row
row k a = record { key = k; amount = a }

-- the row that a key and an amount are, the first of which stands at an index of the order
abbrev pub row_from : ℕ → List ℕ → Result Row Refusal
row_from i xs = some_else (below_at key_limit xs 0) (fault i) (λ k. some_else (below_at amount_limit xs 1) (fault (1 + i)) (λ a. Ok (row k a)))

-- lent rows, key and amount of each, the first of which stands at an index of the order
abbrev pub rows_from : ℕ → List ℕ → Result (List Row) Refusal
rows_from i [] = Ok []
rows_from i (k ∷ []) = cond (nat_lt k key_limit) (fault (1 + i)) (fault i)
rows_from i (k ∷ a ∷ xs) =
    cond (nat_lt k key_limit) (cond (nat_lt a amount_limit) (and_then (rows_from (2 + i) xs) (λ rs. Ok (row k a ∷ rs))) (fault (1 + i))) (fault i)

-- lent rows as an insert has them, behind its kind and count
abbrev pub lent_rows : List ℕ → Result (List Row) Refusal
lent_rows xs = rows_from 2 xs

-- an order that has just so many numbers
abbrev pub ends_at : ℕ → List ℕ → Order → Result Order Refusal
ends_at n xs o = cond (nat_le (length xs) n) (Ok o) (fault n)

abbrev pub insert_of : List ℕ → Result Order Refusal
insert_of xs = and_then (lent_rows xs) (λ rs. Ok (insert rs))

-- how many rows an insert says that it has, if it may have so many and has them
abbrev pub insert_count : List ℕ → Option ℕ
insert_count xs = some_else (below_at (1 + most_inserted) xs 1) None (λ n. cond (length xs == 2 + 2 * n) (Some n) None)

abbrev pub insert_from : List ℕ → Result Order Refusal
insert_from xs = some_else (insert_count xs) (fault 1) (λ _. insert_of (drop 2 xs))

abbrev pub span_from : List ℕ → Result Span Refusal
span_from xs = some_else (below_at key_limit xs 1) (fault 1) (λ a. some_else (below_at key_limit xs 2) (fault 2) (λ b. Ok (record { from = a; to = b })))

abbrev pub erase_from : List ℕ → Result Order Refusal
erase_from xs = and_then (span_from xs) (λ s. ends_at 3 xs (erase s))

abbrev pub raise_from : List ℕ → Result Order Refusal
raise_from xs = and_then (span_from xs) (λ s. some_else (below_at key_limit xs 3) (fault 3) (λ n. ends_at 4 xs (raise s n)))

abbrev pub pack_from : List ℕ → Result Order Refusal
pack_from xs = some_else (number_at xs 1) (fault 1) (λ m. ends_at 2 xs (pack m))

abbrev pub by_kind : ℕ → List ℕ → Result Order Refusal
by_kind zero xs = insert_from xs
by_kind (suc zero) xs = erase_from xs
by_kind (suc (suc zero)) xs = raise_from xs
by_kind (suc (suc (suc zero))) xs = pack_from xs
by_kind (suc (suc (suc (suc k)))) xs = fault 0

-- the order that some numbers are
abbrev pub order_from : List ℕ → Result Order Refusal
order_from xs = some_else (number_at xs 0) (fault 0) (λ kind. by_kind kind xs)

-- the order that the code holds; its rows may be out of their bounds
abbrev pub order_of : CodeOrder → Result Order Refusal
order_of (Insert lent) = insert_of lent.now
order_of (Erase s) = Ok (erase s)
order_of (Raise s n) = Ok (raise s n)
order_of (Pack m) = Ok (pack m)

-- what the code answers to an order
abbrev pub outcome : Result Applied Refusal → Result Outcome Refusal
outcome (Ok a) = Ok (record { rows = vec_items a.rows; touched = a.touched })
outcome (Err e) = Err e

-- what the code promises of its answer to an order, if it is one
abbrev pub IsApplied : Result Order Refusal → List Row → Result Applied Refusal → Type 0
IsApplied o rs r = UnlessOut r (outcome r ≡ and_then o (λ o. applied o rs))
