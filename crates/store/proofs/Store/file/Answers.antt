use Rattle.std.proofs.Common.{◌+◌, refl, ◌∙◌}
use Rattle.store.specs.Memory.{slot_count}
use Rattle.store.proofs.SlotLaws.{slot_within, stored_no_file, stored_other, stored_here, length_told, stored_nowhere, stored_in}
use Rattle.store.proofs.Store.file.Goals as goal

pub returns-in_err-slot : goal.returns-in_err-slot
returns-in_err-slot c = c.from_residual.ensures ∙ stored_nowhere c.args.self.now.most_rows c.args.memory.directory.now c.args.memory.bytes.now c.args.number _ refl c.in_err-slot.ensures

pub slot_bytes-bytes-requires : goal.slot_bytes-bytes-requires
slot_bytes-bytes-requires c = slot_within c.args.memory.directory.now (slot_count c.args.self.now c.args.memory) (c.args.number + 1) c.in_ok-slot.slot c.in_ok-slot.ensures

pub returns-in_err-head : goal.returns-in_err-head
returns-in_err-head c =
    c.from_residual-in_err-head.ensures ∙ stored_no_file c.args.self.now.most_rows c.args.memory.directory.now c.args.memory.bytes.now c.args.number c.in_ok-slot.slot _ c.slot_bytes-bytes.ensures c.in_err-head.ensures
    ∙ stored_in c.args.self.now.most_rows c.args.memory.directory.now c.args.memory.bytes.now c.args.number _ c.in_ok-slot.slot refl c.in_ok-slot.ensures

pub returns-then-head-number : goal.returns-then-head-number
returns-then-head-number c =
    stored_other c.args.self.now.most_rows c.args.memory.directory.now c.args.memory.bytes.now c.args.number c.in_ok-slot.slot _ c.slot_bytes-bytes.ensures c.in_ok-head.head c.in_ok-head.ensures c.if-head-number.true
    ∙ stored_in c.args.self.now.most_rows c.args.memory.directory.now c.args.memory.bytes.now c.args.number _ c.in_ok-slot.slot refl c.in_ok-slot.ensures

pub slot_start-requires : goal.slot_start-requires
slot_start-requires c = slot_within c.args.memory.directory.now (slot_count c.args.self.now c.args.memory) (c.args.number + 1) c.in_ok-slot.slot c.in_ok-slot.ensures

pub returns : goal.returns
returns c =
    let inside = slot_within c.args.memory.directory.now (slot_count c.args.self.now c.args.memory) (c.args.number + 1) c.in_ok-slot.slot c.in_ok-slot.ensures in
    let long = length_told c.args.self.now.most_rows c.args.memory.directory.now c.args.memory.bytes.now c.args.number c.in_ok-slot.slot _ c.slot_bytes-bytes.ensures c.in_ok-head.head inside c.in_ok-head.ensures in
    stored_here c.args.self.now.most_rows c.args.memory.directory.now c.args.memory.bytes.now c.args.number c.in_ok-slot.slot _ c.slot_bytes-bytes.ensures c.in_ok-head.head _ c.in_ok-head.ensures c.if-head-number.false (λ j. record { start = c.slot_start.ensures.start j; length = long j })
    ∙ stored_in c.args.self.now.most_rows c.args.memory.directory.now c.args.memory.bytes.now c.args.number _ c.in_ok-slot.slot refl c.in_ok-slot.ensures
