use Rattle.rows.proofs.Orders.{row_order_means_nothing}
use Rattle.rows.proofs.row_order_means_nothing.Goals as goal

pub returns : goal.returns
returns c = row_order_means_nothing
