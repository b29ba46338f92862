-- What lent memory holds of a store.
use Rattle.std.specs.Prelude.{◌≡◌, ℕ, length}
use Rattle.store.specs.declared.Store.{Store}
use Rattle.store.specs.declared.memory.FileMemory.{FileMemory}
use Rattle.store.specs.declared.memory.FileMemoryMut.{FileMemoryMut}
use Rattle.store.specs.declared.memory.LogMemory.{LogMemory}
use Rattle.store.specs.declared.memory.LogMemoryMut.{LogMemoryMut}
use Rattle.store.specs.Log.{Log, log_of}
use Rattle.store.specs.Putting.{Files, files_of}
use Rattle.store.specs.Slots.{slots}

-- how many slots of a store the memory has
abbrev pub slot_count : Store → FileMemory → ℕ
slot_count s m = slots s.most_rows (length m.directory.now) (length m.bytes.now)

abbrev pub files_in : Store → FileMemory → Files
files_in s m = files_of s m.directory.now m.bytes.now

abbrev pub files_in_mut : Store → FileMemoryMut → Files
files_in_mut s m = files_of s m.directory.now m.bytes.now

abbrev pub log_in : Store → LogMemory → Log
log_in s m = log_of s m.ends.now m.bytes.now

abbrev pub log_in_mut : Store → LogMemoryMut → Log
log_in_mut s m = log_of s m.ends.now m.bytes.now

-- that memory still lends the slices that it lent: so that whoever lent them knows what they hold afterwards
abbrev pub LendsSameFiles : FileMemoryMut → FileMemoryMut → Type 0
LendsSameFiles old new = (new.directory.ghost_name ≡ old.directory.ghost_name) × (new.bytes.ghost_name ≡ old.bytes.ghost_name)

abbrev pub LendsSameLog : LogMemoryMut → LogMemoryMut → Type 0
LendsSameLog old new = (new.ends.ghost_name ≡ old.ends.ghost_name) × (new.bytes.ghost_name ≡ old.bytes.ghost_name)
