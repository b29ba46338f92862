use Rattle.std.proofs.Common.{◌<◌, ap, ◌∙◌, arith}
use Rattle.std.proofs.lemmas.Result.{err_from_is_err_and}
use Rattle.writers.specs.Memory.{Memory, memory_of}
use Rattle.writers.specs.Model.{fine}
use Rattle.writers.specs.declared.writer.Writer.TheVariants.{Idle}
use Rattle.writers.proofs.DeskLaws.{memory_set}
use Rattle.writers.proofs.DeedLaws.{stop_refused, stop_fine}
use Rattle.writers.proofs.Table.stop.Goals as goal

pub returns-in_err-index : goal.returns-in_err-index
returns-in_err-index c d fs es l =
    let p = err_from_is_err_and c.from_residual.result c.from_residual.ensures.1 in
    rw (p.1, p.2, c.in_err-index.ensures.0) (stop_refused c.args.writer (memory_of c.args.self.now d fs es l) c.in_err-index.ensures.1)

pub returns : goal.returns
returns c d fs es l =
    let t = c.args.self.now in
    let w = c.args.writer in
    let there : w < 16 = omega arith in
    ap (λ (m : Memory). (fine, m)) (memory_set t w c.in_ok-index.index c.in_ok-index.ensures.0 d fs es l Idle) ∙ stop_fine w (memory_of t d fs es l) there
