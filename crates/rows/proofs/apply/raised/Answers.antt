use Rattle.std.proofs.Common.{vec_items, refl, ◌∙◌, arith}
use Rattle.rows.specs.Rows.{raised}
use Rattle.rows.proofs.Rows.{raised_more}
use Rattle.rows.proofs.Orders.{raise_applied, limit_more}
use Rattle.rows.proofs.apply.raised.Goals as goal

pub loop-row-init : goal.loop-row-init
unfolding raised
loop-row-init c = (c.new-all.ensures.items, refl)

pub loop-row-preserved : goal.loop-row-preserved
loop-row-preserved c =
    let s = c.args.span in
    let n = c.args.by in
    let xs = c.args.rows.now in
    let i = c.loop-row.row-index in
    let all = raised_more s xs i _ (omega arith) n c.in-Some.changed c.in-Some.ensures in
    let limit = limit_more s n xs i _ (omega arith) c.in-Some.changed c.in-Some.ensures in
    let pushed = c.in_ok-push.ensures.items in
    (cc (all, pushed, c.loop-row.invariant.0), limit ∙ c.loop-row.invariant.1)

pub returns : goal.returns
returns c =
    let inv = c.loop-row.invariant in
    raise_applied c.args.span c.args.by c.args.rows.now (vec_items c.loop-row.all) c.loop-row.row-index c.count_within.result (omega arith) c.count_within.ensures inv.0 inv.1
