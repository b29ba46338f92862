use Rattle.std.proofs.Common.{◌≡◌, ◌≤◌, take, count_by}
use Rattle.store.specs.Slots.{is_marked}
use Rattle.store.proofs.Store.count_free.Given as goal

abbrev pub invariant-loop-mark : goal.invariant-loop-mark
invariant-loop-mark l = (l.free ≡ count_by (is_marked 0) (take l.mark-index l.mark-items)) × (l.free ≤ l.mark-index)
