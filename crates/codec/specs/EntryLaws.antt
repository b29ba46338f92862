-- What is promised of entries and their bytes.
use Rattle.std.specs.Prelude.{◌≡◌, ℕ, true, List, Some}
use Rattle.codec.specs.Words.{AreBytes}
use Rattle.codec.specs.Entries.{LogEntry, entry_fits, entry_bytes, entry_in}

-- what is written of an entry in its bounds reads as that entry
abbrev pub EntriesComeBack : Type 0
EntriesComeBack = (e : LogEntry) → entry_fits e ≡ true → entry_in (entry_bytes e) ≡ Some e

-- whatever reads as an entry is just what is written of it, and the entry is in its bounds
abbrev pub EntriesAreOne : Type 0
EntriesAreOne = (xs : List ℕ) (e : LogEntry) → AreBytes xs → entry_in xs ≡ Some e → (xs ≡ entry_bytes e) × (entry_fits e ≡ true)
