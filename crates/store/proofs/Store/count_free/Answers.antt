use Rattle.std.proofs.Common.{arith}
use Rattle.std.proofs.lemmas.Grind.{common_steps}
use Rattle.std.proofs.lemmas.List.Sums.{count_by_more_yes, count_by_more_no}
use Rattle.store.proofs.SlotLists.{count_is}
use Rattle.store.proofs.Store.count_free.Goals as goal

pub loop-mark-preserved : goal.loop-mark-preserved
loop-mark-preserved c = grind (arith, common_steps, count_by_more_yes, count_by_more_no)

pub returns : goal.returns
returns c = grind (arith, common_steps, count_is)
