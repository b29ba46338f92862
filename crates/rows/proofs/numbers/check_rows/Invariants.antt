use Rattle.rows.proofs.Lent.{Read}
use Rattle.rows.proofs.numbers.check_rows.Given as goal

abbrev pub invariant-loop-i : goal.invariant-loop-i
invariant-loop-i l = Read l.lent l.i-iterator (λ _. tt {0}) (λ _. tt {0})
