use Rattle.std.proofs.Common.{◌≡◌, ◌-◌, length}
use Rattle.store.specs.Import.{files_read}
use Rattle.store.specs.Memory.{LendsSameFiles}
use Rattle.store.proofs.Store.read_files.Given as goal

abbrev pub invariant-loop-slot : goal.invariant-loop-slot
invariant-loop-slot l =
    (files_read l.self.most_rows l.fn.from.bytes.now (l.count - l.slot) l.slot l.here.at l.files.directory.now l.files.bytes.now ≡ files_read l.self.most_rows l.fn.from.bytes.now l.count 0 l.fn.from.at l.initial.files.directory.now l.initial.files.bytes.now)
    × (l.here.bytes.now ≡ l.fn.from.bytes.now)
    × (length l.files.directory.now ≡ length l.initial.files.directory.now)
    × (length l.files.bytes.now ≡ length l.initial.files.bytes.now)
    × LendsSameFiles l.initial.files l.files
