use Rattle.codec.specs.Files.{rows_left, rows_from}
use Rattle.codec.proofs.RewriteLaws.{Counted}
use Rattle.codec.proofs.rewrite.Rewrite.count_staying.Given as goal

abbrev pub invariant-loop-row : goal.invariant-loop-row
invariant-loop-row l = Counted l.self (rows_from l.bytes) (rows_left l.row-iterator) l.count
