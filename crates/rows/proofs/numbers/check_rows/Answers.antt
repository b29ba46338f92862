use Rattle.std.proofs.Common.{refl, rules}
use Rattle.rows.proofs.Lent.{read_none, read_more}
use Rattle.rows.proofs.numbers.check_rows.Goals as goal

pub loop-i-init : goal.loop-i-init
loop-i-init c = read_none c.args.lent.now c.into_iter-i-iterator.result (λ _. tt {0}) (search rules) (search rules) (search rules)

pub loop-i-preserved : goal.loop-i-preserved
loop-i-preserved c =
    read_more c.args.lent.now c.loop-i.i-iterator c.next.new.self c.in-Some.i c.in-Some.pair (λ _. tt {0}) (λ _. tt {0}) c.loop-i.invariant c.in-Some.ensures.steps (λ _. tt {0}) c.in_ok-row_from.field-0 c.in_ok-row_from.ensures (λ _. refl)
