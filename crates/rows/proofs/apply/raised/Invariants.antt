use Rattle.std.proofs.Common.{◌≡◌, take, drop, vec_items}
use Rattle.rows.specs.Orders.{passes_limit}
use Rattle.rows.specs.Rows.{raised}
use Rattle.rows.proofs.apply.raised.Given as goal

abbrev pub invariant-loop-row : goal.invariant-loop-row
invariant-loop-row l =
    (vec_items l.all ≡ raised l.span l.by (take l.row-index l.rows))
    × (passes_limit l.span l.by (drop l.row-index l.rows) ≡ passes_limit l.span l.by l.rows)
