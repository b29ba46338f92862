use Rattle.std.proofs.Common.{◌≡◌, ℕ, ◌||◌, length}
use Rattle.std.specs.BTreeSet.{IsOrdered, contains as in_set}
use Rattle.std.specs.Ordering.{nat_cmp}
use Rattle.versions.specs.Alive.{has}
use Rattle.versions.proofs.sets.set_of.Given as goal

abbrev pub invariant-loop-rest : goal.invariant-loop-rest
invariant-loop-rest l = IsOrdered nat_cmp l.set × ((n : ℕ) → (in_set nat_cmp l.set n || has l.rest n) ≡ has l.numbers n)

abbrev pub decreases-loop-rest : goal.decreases-loop-rest
decreases-loop-rest l = length l.rest
