use Rattle.std.proofs.Common.{◌≤◌}
use Rattle.codec.specs.Rewrites.{AtAnyTarget}
use Rattle.codec.proofs.SourceLaws.{Surveyed}
use Rattle.codec.proofs.rewrite.Rewriting.count_in_all.Given as goal

abbrev pub invariant-loop-source : goal.invariant-loop-source
invariant-loop-source l = AtAnyTarget l.self (λ memory target. Surveyed l.self.rewrite memory target l.sources l.source-index l.total) × (l.total ≤ 65536)
