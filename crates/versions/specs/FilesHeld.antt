-- The rows of files, as they lie in memory.
use Rattle.std.specs.Prelude.{◌≡◌, ℕ, true, List, length, is_some, Option, Result}
use Rattle.std.specs.Option.{option_map}
use Rattle.rows.specs.declared.refusal.Refusal.{Refusal}
use Rattle.rows.specs.declared.refusal.Refusal.TheVariants.{DamagedFile}
use Rattle.rows.specs.declared.row.Row.{Row}
use Rattle.codec.specs.Files.{file_in}
use Rattle.codec.specs.Rewrites.{part_in, rows_in}
use Rattle.store.specs.declared.files.Stored.{Stored}
use Rattle.store.specs.Putting.{Files}
use Rattle.store.specs.StoreLaws.{file_under}
use Rattle.versions.specs.Gathering.{gathered}

-- that bytes are a file of so many rows
abbrev pub HasRows : List ℕ → ℕ → Type 0
HasRows bytes count = (is_some (file_in bytes) ≡ true) × (length (rows_in bytes) ≡ count)

-- the rows of a file of the store
abbrev pub stored_rows : Files → Stored → List Row
stored_rows s x = rows_in (part_in x.part s.bytes)

abbrev pub rows_found : Files → ℕ → Option (List Row)
rows_found s n = option_map (stored_rows s) (file_under s n)

-- the rows of some files, one after the other, or the first that is missing or damaged
unfoldable pub rows_held : Files → List ℕ → Result (List Row) Refusal
rows_held s ns = gathered (rows_found s) DamagedFile ns
