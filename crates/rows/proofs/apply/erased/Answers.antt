use Rattle.std.proofs.Common.{rules}
use Rattle.std.proofs.iter.runs.Made.{chains}
use Rattle.rows.specs.Rows.{outside}
use Rattle.rows.specs.Orders.{done_to, touched}
use Rattle.rows.proofs.apply.erased.Goals as goal

pub returns : goal.returns
unfolding outside done_to touched
returns c = search (rules, chains)
