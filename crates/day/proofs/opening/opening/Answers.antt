use Rattle.day.proofs.Openings.{opened_by}
use Rattle.day.proofs.opening.opening.Goals as goal

pub returns : goal.returns
returns c =
    let front = c.in-Some.ensures.cases in
    opened_by c.args.day.now c.in-Some.first.now _ c.horizon_from.result front.enough front.same c.from_le_bytes.ensures c.horizon_from.ensures
