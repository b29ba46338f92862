use Rattle.std.proofs.Common.{Ok, ◌∙◌, ap, vec_items, arith}
use Rattle.std.specs.Iterator.Adapters.{enumerate_count}
use Rattle.rows.specs.Numbers.{lent_rows}
use Rattle.rows.proofs.Lent.{read_more, read_all}
use Rattle.rows.proofs.Orders.{outcome_so_far, one_row_in, all_rows_in, insert_applied}
use Rattle.rows.proofs.apply.inserted.Goals as goal

pub loop-i-preserved : goal.loop-i-preserved
loop-i-preserved c =
    let next = c.in-Some.ensures.steps in
    let all = vec_items c.loop-i.all in
    let i = enumerate_count c.loop-i.i-iterator in
    read_more c.args.lent.now c.loop-i.i-iterator c.next.new.self c.in-Some.i c.in-Some.pair (outcome_so_far all i) (outcome_so_far c.args.rows.now 0) c.loop-i.invariant next
    (outcome_so_far (vec_items c.push.new.self) (enumerate_count c.next.new.self)) c.in_ok-row.row c.in_ok-row.ensures
    (λ rs. ap (λ n. outcome_so_far (vec_items c.push.new.self) n rs) next.2 ∙ one_row_in all (vec_items c.push.new.self) i c.in_ok-row.row rs c.in_ok-push.ensures.items)

pub returns : goal.returns
returns c =
    let lent = c.args.lent.now in
    let all = vec_items c.loop-i.all in
    let i = enumerate_count c.loop-i.i-iterator in
    let end = c.in-None.ensures.steps.0.1.0 in
    let read = c.loop-i.invariant in
    ap Ok (all_rows_in all i c.div_ceil.result (omega (arith, end, read.1, read.2, c.div_ceil.ensures)))
    ∙ read_all lent c.loop-i.i-iterator (outcome_so_far all i) (outcome_so_far c.args.rows.now 0) read end
    ∙ insert_applied (lent_rows lent) c.args.rows.now
