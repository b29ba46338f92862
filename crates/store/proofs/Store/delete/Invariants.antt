use Rattle.std.proofs.Common.{◌≡◌}
use Rattle.store.specs.Slots.{freed}
use Rattle.store.proofs.Store.delete.Given as goal

abbrev pub invariant-loop-slot : goal.invariant-loop-slot
invariant-loop-slot l = l.directory ≡ freed l.initial.directory l.mark l.slot
