use Rattle.std.proofs.Common.{◌≡◌, ◌*◌, take}
use Rattle.codec.specs.Words.{put_at, bytes_of}
use Rattle.codec.specs.Entries.{added_words}
use Rattle.codec.proofs.entry.put_adds.Given as goal

abbrev pub invariant-loop-i : goal.invariant-loop-i
invariant-loop-i l = l.out ≡ put_at (8 * l.k) (bytes_of (added_words (take l.i l.adds))) l.initial.out
