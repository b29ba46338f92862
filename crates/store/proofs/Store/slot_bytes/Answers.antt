use Rattle.std.proofs.Common.{[], get_or, refl, ap, ◌∙◌, arith}
use Rattle.store.specs.Memory.{slot_count}
use Rattle.store.proofs.SlotLaws.{slot_overfull, slot_filled}
use Rattle.store.proofs.SlotLists.{length_is}
use Rattle.store.proofs.Store.slot_bytes.Goals as goal

pub returns-then-length-slot_size : goal.returns-then-length-slot_size
returns-then-length-slot_size c =
    let length = ap (λ l. get_or (get_or l c.args.slot []) 1 0) c.slots.ensures.slots ∙ length_is c.args.memory.directory.now (slot_count c.args.self.now c.args.memory) c.args.slot c.requires [] in
    slot_overfull c.args.self.now.most_rows c.args.memory.directory.now c.args.memory.bytes.now c.args.slot _ length (omega (arith, c.if-length-slot_size.true, c.slot_size.ensures))

pub returns : goal.returns
returns c =
    let length = ap (λ l. get_or (get_or l c.args.slot []) 1 0) c.slots.ensures.slots ∙ length_is c.args.memory.directory.now (slot_count c.args.self.now c.args.memory) c.args.slot c.requires [] in
    slot_filled c.args.self.now.most_rows c.args.memory.directory.now c.args.memory.bytes.now c.args.slot _ length _ _ c.slot_start-start.ensures.start refl (omega (arith, c.if-length-slot_size.false, c.slot_size.ensures))
