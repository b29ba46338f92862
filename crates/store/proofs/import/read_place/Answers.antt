use Rattle.std.proofs.Common.{refl, arith}
use Rattle.std.proofs.lemmas.Result.{err_from_is_err_and}
use Rattle.store.proofs.ImportLaws.{place_not, place_done}
use Rattle.store.proofs.import.read_place.Goals as goal

pub returns-in_err-end : goal.returns-in_err-end
returns-in_err-end c =
    let p = err_from_is_err_and c.from_residual.result c.from_residual.ensures.1 in
    rw (p.1, p.2) (record { read = place_not c.args.from.at c.args.from.bytes.now c.args.place c.args.used c.args.log.now.ends.now c.args.log.now.bytes.now _ c.in_err-end.ensures; bytes = tt; lent = (refl, refl) })

pub returns : goal.returns
returns c =
    record {
      read = place_done c.args.from.at c.args.from.bytes.now c.args.place c.args.used c.args.log.now.ends.now c.args.log.now.bytes.now c.in_ok-end.end _ _ c.copy_from_slice.new.self c.in_ok-end.ensures refl (omega arith) c.copy_from_slice.ensures.after;
      bytes = refl;
      lent = (refl, refl);
    }
