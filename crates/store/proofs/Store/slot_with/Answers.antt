use Rattle.std.proofs.Common.{ap, ◌∙◌}
use Rattle.std.specs.List.{position}
use Rattle.store.specs.Memory.{slot_count}
use Rattle.store.specs.Slots.{is_marked}
use Rattle.store.proofs.SlotLists.{position_is}
use Rattle.store.proofs.Store.slot_with.Goals as goal

pub returns : goal.returns
returns c = c.first_marked.ensures ∙ ap (position (is_marked c.args.mark)) c.slots.ensures.slots ∙ position_is c.args.memory.directory.now c.args.mark (slot_count c.args.self.now c.args.memory)
