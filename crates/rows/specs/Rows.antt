-- Rows in a span, rows that are raised, and rows alike.
use Rattle.std.specs.Prelude.{◌≡◌, ℕ, ◌+◌, ◌^◌, Bool, cond, not, ◌&&◌, List, map, Some, None, count_by, filter, Option, ◌==◌, nat_lt}
use Rattle.rows.specs.declared.row.Row.{Row}
use Rattle.rows.specs.declared.span.Span.{Span}
use Rattle.rows.specs.Spans.{contains_key}

abbrev pub amount_limit : ℕ
amount_limit = 2 ^ 40

abbrev pub within : Span → Row → Bool
within s r = contains_key s r.key

-- the rows that an erase leaves
unfoldable pub outside : Span → List Row → List Row
outside s rs = filter (λ r. not (within s r)) rs

abbrev pub more : ℕ → Row → Row
more n r = record { key = r.key; amount = r.amount + n }

abbrev pub raise_row : ℕ → Row → Option Row
raise_row n r = cond (nat_lt (r.amount + n) amount_limit) (Some (more n r)) None

-- a row as a raise leaves it, if that can be
abbrev pub raised_row : Span → ℕ → Row → Option Row
raised_row s n r = cond (within s r) (raise_row n r) (Some r)

abbrev pub raise_within : Span → ℕ → Row → Row
raise_within s n r = cond (within s r) (more n r) r

-- the rows that a raise makes
unfoldable pub raised : Span → ℕ → List Row → List Row
raised s n rs = map (raise_within s n) rs

unfoldable pub many_within : Span → List Row → ℕ
many_within s rs = count_by (within s) rs

abbrev pub same_row : Row → Row → Bool
same_row a b = a.key == b.key && a.amount == b.amount

-- how often a row stands in a list
unfoldable pub times : Row → List Row → ℕ
times r rs = count_by (same_row r) rs

-- the same rows, each as often, in whatever order
unfoldable pub Alike : List Row → List Row → Type 0
Alike xs ys = (r : Row) → times r xs ≡ times r ys
