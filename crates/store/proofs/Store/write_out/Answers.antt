use Rattle.std.proofs.Common.{Ok, vec_items, ap}
use Rattle.store.specs.Memory.{files_in, log_in}
use Rattle.store.proofs.ExportLaws.{written_out}
use Rattle.store.proofs.Store.write_out.Goals as goal

pub returns : goal.returns
returns c =
    let s = files_in c.args.self.now c.args.files in
    let l = log_in c.args.self.now c.args.log in
    ap Ok (written_out c.args.self.now.horizon s l c.header.result (vec_items c.new-out.result) _ _ _ c.new-out.ensures.items c.header.ensures c.in_ok-push_header.ensures c.in_ok-push_files.ensures c.in_ok-push_entries.ensures)
