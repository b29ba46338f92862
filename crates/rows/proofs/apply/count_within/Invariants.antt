use Rattle.std.proofs.Common.{◌≡◌, ◌≤◌, take}
use Rattle.rows.specs.Rows.{many_within}
use Rattle.rows.proofs.apply.count_within.Given as goal

abbrev pub invariant-loop-row : goal.invariant-loop-row
invariant-loop-row l = (l.count ≡ many_within l.span (take l.row-index l.rows)) × (l.count ≤ l.row-index)
