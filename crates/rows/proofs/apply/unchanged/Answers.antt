use Rattle.std.proofs.Common.{Ok, ap}
use Rattle.rows.specs.Orders.{done_to, touched}
use Rattle.rows.proofs.apply.unchanged.Goals as goal

pub returns : goal.returns
unfolding done_to touched
returns c = ap (λ rs. Ok (record { rows = rs; touched = 0 })) c.in_ok-from_slice.ensures.items
