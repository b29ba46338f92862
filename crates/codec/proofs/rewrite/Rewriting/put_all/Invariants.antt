use Rattle.std.proofs.Common.{[], drop}
use Rattle.codec.specs.Keys.{keys_of}
use Rattle.codec.specs.Rewrites.{rows_kept}
use Rattle.codec.proofs.RowWrites.{Left}
use Rattle.codec.proofs.rewrite.Rewriting.put_all.Given as goal

abbrev pub invariant-loop-source : goal.invariant-loop-source
invariant-loop-source l =
    let out = l.initial.out in
    Left (rows_kept l.self out l.sources) 0 (keys_of []) out (rows_kept l.self out (drop l.source-index l.sources)) l.out l.progress.count l.progress.keys
