use Rattle.std.proofs.Common.{◌∙◌, arith}
use Rattle.codec.proofs.PartLaws.{part_behind}
use Rattle.codec.proofs.rewrite.Rewriting.part.Goals as goal

pub returns-in-Some : goal.returns-in-Some
returns-in-Some c = λ out end. c.within.ensures ∙ part_behind c.args.self.now.before.now out c.args.self.now.behind.now c.args.part c.in-Some.start (omega (arith, end, c.in-Some.ensures))
