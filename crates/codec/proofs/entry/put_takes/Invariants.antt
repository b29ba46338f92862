use Rattle.std.proofs.Common.{◌≡◌, ◌*◌, take}
use Rattle.codec.specs.Words.{put_at, bytes_of}
use Rattle.codec.proofs.entry.put_takes.Given as goal

abbrev pub invariant-loop-i : goal.invariant-loop-i
invariant-loop-i l = l.out ≡ put_at (8 * l.k) (bytes_of (take l.i l.takes)) l.initial.out
