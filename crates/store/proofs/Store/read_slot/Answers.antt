use Rattle.std.proofs.Common.{refl, sym, ◌∙◌, arith}
use Rattle.std.proofs.lemmas.Result.{err_from_is_err_and}
use Rattle.store.proofs.ImportLaws.{read_not, read_done}
use Rattle.store.proofs.Store.read_slot.Goals as goal

pub returns-in_err-end : goal.returns-in_err-end
returns-in_err-end c =
    let p = err_from_is_err_and c.from_residual.result c.from_residual.ensures.1 in
    rw (p.1, p.2) (record { read = read_not c.args.self.now.most_rows c.args.from.at c.args.from.bytes.now c.args.slot c.args.files.now.directory.now c.args.files.now.bytes.now _ c.in_err-end.ensures; bytes = tt; lent = (refl, refl) })

pub returns : goal.returns
returns c =
    record {
      read = read_done c.args.self.now.most_rows c.args.from.at c.args.from.bytes.now c.args.slot c.args.files.now.directory.now c.args.files.now.bytes.now c.slot_start-start.result c.in_ok-end.end c.unwrap.result _ _ c.copy_from_slice.new.self c.in_ok-end.ensures c.slot_start-start.ensures.start (sym c.unwrap.ensures ∙ c.word.ensures) refl (omega arith) c.copy_from_slice.ensures.after;
      bytes = refl;
      lent = (refl, refl);
    }
