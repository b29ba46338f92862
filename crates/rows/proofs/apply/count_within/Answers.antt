use Rattle.std.proofs.Common.{arith}
use Rattle.std.proofs.lemmas.Grind.{common_steps}
use Rattle.std.proofs.lemmas.List.Sums.{count_by_more_yes, count_by_more_no}
use Rattle.rows.specs.Rows.{many_within}
use Rattle.rows.proofs.apply.count_within.Goals as goal

pub loop-row-init : goal.loop-row-init
unfolding many_within
loop-row-init c = grind (arith, common_steps)

pub loop-row-preserved : goal.loop-row-preserved
unfolding many_within
loop-row-preserved c = grind (arith, common_steps, count_by_more_yes, count_by_more_no)
