use Rattle.std.proofs.Common.{◌≡◌, ◌++◌, vec_items}
use Rattle.std.specs.List.{flat_map}
use Rattle.store.specs.Export.{entries_below, counted}
use Rattle.store.specs.Memory.{log_in}
use Rattle.store.proofs.Store.push_entries.Given as goal

abbrev pub invariant-loop-place : goal.invariant-loop-place
invariant-loop-place l = vec_items l.out ≡ vec_items l.initial.out ++ flat_map counted (entries_below (log_in l.self l.log) l.place)
