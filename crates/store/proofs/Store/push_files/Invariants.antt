use Rattle.std.proofs.Common.{◌≡◌, ◌++◌, vec_items}
use Rattle.std.specs.List.{flat_map}
use Rattle.store.specs.Export.{files_below, numbered}
use Rattle.store.specs.Memory.{files_in}
use Rattle.store.proofs.Store.push_files.Given as goal

abbrev pub invariant-loop-slot : goal.invariant-loop-slot
invariant-loop-slot l = vec_items l.out ≡ vec_items l.initial.out ++ flat_map numbered (files_below (files_in l.self l.files) l.slot)
