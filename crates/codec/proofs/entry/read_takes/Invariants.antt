use Rattle.std.proofs.Common.{◌≡◌, drop, vec_items}
use Rattle.codec.specs.Words.{numbers}
use Rattle.codec.specs.Entries.{takes_in}
use Rattle.codec.proofs.EntryReads.{behind}
use Rattle.codec.proofs.entry.read_takes.Given as goal

abbrev pub invariant-loop-word : goal.invariant-loop-word
invariant-loop-word l = behind (vec_items l.takes) (takes_in (drop l.word-index (numbers l.words))) ≡ takes_in (numbers l.words)
