use Rattle.std.proofs.Common.{◌+◌}
use Rattle.store.proofs.SlotLaws.{freed_here, freed_not}
use Rattle.store.proofs.Store.delete.Goals as goal
use Rattle.store.proofs.Store.delete.Goals.{then-directory-slot, else-directory-slot}

pub loop-slot-preserved : goal.loop-slot-preserved
loop-slot-preserved c =
    let d = c.args.directory.now in
    elim c.if-directory-slot.branch [
      | then-directory-slot w ↦ freed_here d (c.args.number + 1) c.loop-slot.slot c.loop-slot.directory c.loop-slot.invariant c.if-directory-slot.directory w.if-directory-slot.true w.directory-is
      | else-directory-slot w ↦ freed_not d (c.args.number + 1) c.loop-slot.slot c.loop-slot.directory c.loop-slot.invariant c.if-directory-slot.directory w.if-directory-slot.false w.directory-is
    ]
