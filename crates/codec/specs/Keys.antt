-- The smallest and the largest key of some rows.
use Rattle.std.specs.Prelude.{ℕ, min, max, List, [], ◌∷◌}
use Rattle.rows.specs.declared.row.Row.{Row}
use Rattle.rows.specs.declared.span.Span.{Span}

abbrev pub widened : ℕ → Span → Span
widened k s = record { from = min k s.from; to = max k s.to }

-- the span from the smallest key to the largest; empty where there are no rows
abbrev pub keys_of : List Row → Span
keys_of [] = record { from = 4294967295; to = 0 }
keys_of (r ∷ rs) = widened r.key (keys_of rs)
