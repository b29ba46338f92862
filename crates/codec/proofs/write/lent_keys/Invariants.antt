use Rattle.std.proofs.Common.{◌≡◌, take, drop}
use Rattle.codec.specs.Bounds.{every}
use Rattle.codec.specs.Files.{row_fits, pairs}
use Rattle.codec.specs.Keys.{keys_of}
use Rattle.codec.proofs.write.lent_keys.Given as goal

abbrev pub invariant-loop-key : goal.invariant-loop-key
invariant-loop-key l = (every row_fits (drop l.key-index (pairs l.lent)) ≡ every row_fits (pairs l.lent)) × (l.keys ≡ keys_of (take l.key-index (pairs l.lent)))
