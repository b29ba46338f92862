use Rattle.std.proofs.Common.{refl}
use Rattle.std.proofs.lemmas.Result.{err_from_is_err_and}
use Rattle.codec.specs.Entries.{entry_of}
use Rattle.store.specs.Memory.{log_in_mut}
use Rattle.store.proofs.LogLaws.{put_not, put_done}
use Rattle.store.proofs.Views.{place_told}
use Rattle.store.proofs.Store.put_entry.Goals as goal

pub returns-in_err-start : goal.returns-in_err-start
returns-in_err-start c =
    let p = err_from_is_err_and c.from_residual.result c.from_residual.ensures.1 in
    let told = place_told (entry_of c.args.entry.now) c.args.self.now.entries c.view.result _ _ _ c.view.ensures.ends c.view.ensures.bytes c.in_err-start.ensures in
    record {
      put = rw (p.1, p.2) (put_not (entry_of c.args.entry.now) (log_in_mut c.args.self.now c.args.memory.now) _ told);
      lent = (refl, refl);
      same = (refl, refl, refl);
    }

pub returns : goal.returns
returns c =
    let told = place_told (entry_of c.args.entry.now) c.args.self.now.entries c.view.result _ _ _ c.view.ensures.ends c.view.ensures.bytes c.in_ok-start.ensures in
    record {
      put = put_done (entry_of c.args.entry.now) (log_in_mut c.args.self.now c.args.memory.now) c.in_ok-start.start c.in_ok-start.length c.write_entry.result c.write_entry.new.out told c.write_entry.ensures;
      lent = (refl, refl);
      same = (refl, refl, refl);
    }
