use Rattle.std.proofs.Common.{vec_items}
use Rattle.store.specs.Memory.{log_in}
use Rattle.store.proofs.ExportLaws.{entries_turn}
use Rattle.store.proofs.Store.push_entries.Goals as goal

pub loop-place-preserved : goal.loop-place-preserved
loop-place-preserved c = entries_turn (log_in c.args.self.now c.args.log) c.loop-place.place (vec_items c.args.out.now) (vec_items c.loop-place.out) (vec_items c.push_entry.new.out) c.loop-place.invariant c.in_ok-push_entry.ensures
