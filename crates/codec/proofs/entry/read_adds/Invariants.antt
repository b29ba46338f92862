use Rattle.std.proofs.Common.{◌≡◌, ◌*◌, drop, vec_items}
use Rattle.codec.specs.Words.{numbers}
use Rattle.codec.specs.Entries.{adds_in}
use Rattle.codec.proofs.EntryReads.{behind}
use Rattle.codec.proofs.entry.read_adds.Given as goal

abbrev pub invariant-loop-file : goal.invariant-loop-file
invariant-loop-file l = behind (vec_items l.adds) (adds_in (drop (3 * l.file-index) (numbers l.words))) ≡ adds_in (numbers l.words)
