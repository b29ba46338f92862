use Rattle.codec.specs.Files.{rows_left, rows_from}
use Rattle.codec.specs.Rewrites.{rewritten}
use Rattle.codec.proofs.RowWrites.{Left}
use Rattle.codec.proofs.rewrite.Rewrite.put_rows.Given as goal

abbrev pub invariant-loop-row : goal.invariant-loop-row
invariant-loop-row l = Left (rewritten l.self (rows_from l.bytes)) l.initial.count l.initial.keys l.initial.out (rewritten l.self (rows_left l.row-iterator)) l.out l.count l.keys
