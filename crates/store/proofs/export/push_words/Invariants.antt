use Rattle.std.proofs.Common.{◌≡◌, ◌++◌, take, vec_items}
use Rattle.codec.specs.Words.{bytes_of}
use Rattle.store.proofs.export.push_words.Given as goal

abbrev pub invariant-loop-word : goal.invariant-loop-word
invariant-loop-word l = vec_items l.out ≡ vec_items l.initial.out ++ bytes_of (take l.word-index l.words)
