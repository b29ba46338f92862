use Rattle.std.proofs.Common.{length, Ok, Err, ap, ◌∙◌, arith}
use Rattle.std.proofs.lemmas.Result.{err_from_is_err_and}
use Rattle.store.specs.Import.{file_read}
use Rattle.store.proofs.ImportLaws.{read_keeps, files_step, files_all, slot_still}
use Rattle.store.proofs.Store.read_files.Goals as goal

pub returns-in_err-here : goal.returns-in_err-here
returns-in_err-here c =
    let l = c.loop-slot in
    let p = err_from_is_err_and c.from_residual.result c.from_residual.ensures.1 in
    let told = c.in_err-here.ensures.read ∙ ap (λ bs. file_read c.args.self.now.most_rows l.here.at bs l.slot l.files.directory.now l.files.bytes.now) l.invariant.1 in
    rw (p.1, p.2) (record {
      read = files_step c.args.self.now.most_rows c.args.from.bytes.now c.args.count l.slot l.here.at l.files.directory.now l.files.bytes.now _ (Err _, c.read_slot.new.files.directory.now, c.read_slot.new.files.bytes.now) (omega arith) told l.invariant.0;
      bytes = tt;
      lent = (c.in_err-here.ensures.lent.0 ∙ l.invariant.4.0, c.in_err-here.ensures.lent.1 ∙ l.invariant.4.1);
    })

pub read_slot-requires : goal.read_slot-requires
read_slot-requires c =
    let l = c.loop-slot in
    slot_still c.args.self.now.most_rows l.slot c.args.count (length c.args.files.now.directory.now) (length c.args.files.now.bytes.now) (length l.files.directory.now) (length l.files.bytes.now) (omega arith) c.requires l.invariant.2 l.invariant.3

pub loop-slot-preserved : goal.loop-slot-preserved
loop-slot-preserved c =
    let l = c.loop-slot in
    let most = c.args.self.now.most_rows in
    let bs = c.args.from.bytes.now in
    let told = c.in_ok-here.ensures.read ∙ ap (λ xs. file_read most l.here.at xs l.slot l.files.directory.now l.files.bytes.now) l.invariant.1 in
    let here = slot_still most l.slot c.args.count (length c.args.files.now.directory.now) (length c.args.files.now.bytes.now) (length l.files.directory.now) (length l.files.bytes.now) (omega arith) c.requires l.invariant.2 l.invariant.3 in
    let k = read_keeps most l.here.at bs l.slot l.files.directory.now l.files.bytes.now c.in_ok-here.here.at c.read_slot.new.files.directory.now c.read_slot.new.files.bytes.now here told in (
      files_step most bs c.args.count l.slot l.here.at l.files.directory.now l.files.bytes.now _ (Ok c.in_ok-here.here.at, c.read_slot.new.files.directory.now, c.read_slot.new.files.bytes.now) (omega arith) told l.invariant.0,
      c.in_ok-here.ensures.bytes ∙ l.invariant.1,
      k.1 ∙ l.invariant.2,
      k.2 ∙ l.invariant.3,
      (c.in_ok-here.ensures.lent.0 ∙ l.invariant.4.0, c.in_ok-here.ensures.lent.1 ∙ l.invariant.4.1),
    )

pub returns : goal.returns
returns c =
    let l = c.loop-slot in
    record {
      read = files_all c.args.self.now.most_rows c.args.from.bytes.now c.args.count l.slot l.here.at l.files.directory.now l.files.bytes.now _ (omega arith) l.invariant.0;
      bytes = l.invariant.1;
      lent = l.invariant.4;
    }
