use Rattle.std.proofs.Common.{◌≡◌, drop, vec_items}
use Rattle.store.specs.Memory.{files_in}
use Rattle.versions.specs.Gathering.{behind}
use Rattle.versions.specs.Previews.{previews}
use Rattle.versions.proofs.preview.files_in_span.Given as goal

abbrev pub invariant-loop-number : goal.invariant-loop-number
invariant-loop-number l =
    let s = files_in l.store l.files in
    behind (vec_items l.found) (previews s l.span (drop l.number-index l.numbers)) ≡ previews s l.span l.numbers
