use Rattle.std.proofs.Common.{vec_items}
use Rattle.std.specs.Iterator.Adapters.{enumerate_count}
use Rattle.rows.proofs.Lent.{Read}
use Rattle.rows.proofs.Orders.{outcome_so_far}
use Rattle.rows.proofs.apply.inserted.Given as goal

abbrev pub invariant-loop-i : goal.invariant-loop-i
invariant-loop-i l = Read l.lent l.i-iterator (outcome_so_far (vec_items l.all) (enumerate_count l.i-iterator)) (outcome_so_far l.rows 0)
