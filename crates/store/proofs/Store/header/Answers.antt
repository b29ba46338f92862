use Rattle.std.proofs.Common.{arith}
use Rattle.store.specs.Memory.{files_in, slot_count}
use Rattle.store.proofs.ExportLaws.{held_or_free, held_count}
use Rattle.store.proofs.Store.header.Goals as goal

pub overflow_sub-result : goal.overflow_sub-result
overflow_sub-result c =
    let s = files_in c.args.self.now c.args.files in
    omega (arith, held_or_free s (slot_count c.args.self.now c.args.files), c.count_free.ensures, c.slots-slots.ensures.count)

pub returns : goal.returns
returns c =
    let s = files_in c.args.self.now c.args.files in
    held_count c.args.self.now.horizon c.args.self.now.entries s _ c.count_free.result c.slots-slots.ensures.count c.count_free.ensures
