use Rattle.std.proofs.Common.{◌≡◌, drop, vec_items}
use Rattle.store.specs.Memory.{files_in}
use Rattle.versions.specs.FilesHeld.{rows_held}
use Rattle.versions.specs.Gathering.{behind}
use Rattle.versions.proofs.reading.rows_of.Given as goal

abbrev pub invariant-loop-number : goal.invariant-loop-number
invariant-loop-number l =
    let s = files_in l.store l.files in
    behind (vec_items l.rows) (rows_held s (drop l.number-index l.numbers)) ≡ rows_held s l.numbers
