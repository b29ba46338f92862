use Rattle.std.proofs.lemmas.Result.{err_from_is_err_and}
use Rattle.writers.specs.Memory.{memory_of}
use Rattle.writers.proofs.DeedLaws.{read_shown, read_refused}
use Rattle.writers.proofs.Table.read.Goals as goal

pub returns-in_err-rows : goal.returns-in_err-rows
returns-in_err-rows c =
    let p = err_from_is_err_and c.from_residual.result c.from_residual.ensures.1 in
    let e = c.in_err-rows.field-0.0 in
    rw (p.1, p.2) (read_refused c.args.version (memory_of c.args.self.now c.args.files.directory.now c.args.files.bytes.now c.args.log.ends.now c.args.log.bytes.now) e c.in_err-rows.ensures)

pub returns : goal.returns
returns c = read_shown c.args.version (memory_of c.args.self.now c.args.files.directory.now c.args.files.bytes.now c.args.log.ends.now c.args.log.bytes.now) _ c.in_ok-rows.ensures
