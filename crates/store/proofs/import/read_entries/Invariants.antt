use Rattle.std.proofs.Common.{◌≡◌, ◌-◌, ◌≤◌, length}
use Rattle.store.specs.Import.{entries_read}
use Rattle.store.specs.Memory.{LendsSameLog}
use Rattle.store.proofs.import.read_entries.Given as goal

abbrev pub invariant-loop-place : goal.invariant-loop-place
invariant-loop-place l =
    (entries_read l.fn.from.bytes.now (l.count - l.place) l.place l.here.at l.used l.log.ends.now l.log.bytes.now ≡ entries_read l.fn.from.bytes.now l.count 0 l.fn.from.at 0 l.initial.log.ends.now l.initial.log.bytes.now)
    × (l.here.bytes.now ≡ l.fn.from.bytes.now)
    × (l.used ≤ length l.log.bytes.now)
    × (length l.log.ends.now ≡ length l.initial.log.ends.now)
    × (length l.log.bytes.now ≡ length l.initial.log.bytes.now)
    × LendsSameLog l.initial.log l.log
