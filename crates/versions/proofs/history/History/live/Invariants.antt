use Rattle.std.proofs.Common.{◌≡◌, [], drop, vec_items}
use Rattle.versions.specs.Alive.{alive}
use Rattle.versions.specs.Histories.{changes, entries_of}
use Rattle.versions.proofs.history.History.live.Given as goal

abbrev pub invariant-loop-entry : goal.invariant-loop-entry
invariant-loop-entry l = alive (drop l.entry-index (changes (entries_of l.self))) (vec_items l.live) ≡ alive (changes (entries_of l.self)) []
