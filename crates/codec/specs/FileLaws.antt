-- What is promised of files and their bytes.
use Rattle.std.specs.Prelude.{◌≡◌, ℕ, ◌<◌, ◌≤◌, true, List, length, Some}
use Rattle.std.specs.List.{slice_get}
use Rattle.rows.specs.declared.row.Row.{Row}
use Rattle.rows.specs.declared.span.Span.{Span}
use Rattle.rows.specs.Spans.{contains_key}
use Rattle.codec.specs.Bounds.{every}
use Rattle.codec.specs.Files.{File, row_fits, file_fits, file_bytes, file_in, row_in}
use Rattle.codec.specs.Keys.{keys_of}
use Rattle.codec.specs.Words.{AreBytes, words_of}

-- what is written of a file in its bounds reads as that file
abbrev pub FilesComeBack : Type 0
FilesComeBack = (f : File) → file_fits f ≡ true → file_in (file_bytes f) ≡ Some f

-- whatever reads as a file is just what is written of it, and the file is in its bounds
abbrev pub FilesAreOne : Type 0
FilesAreOne = (xs : List ℕ) (f : File) → AreBytes xs → file_in xs ≡ Some f → (xs ≡ file_bytes f) × (file_fits f ≡ true)

-- the rows of a file are found where they lie, and no others
abbrev pub RowsAreThere : Type 0
RowsAreThere = (xs : List ℕ) (f : File) → file_in xs ≡ Some f → (i : ℕ) → row_in (words_of xs) i ≡ slice_get f.rows i

-- the keys of rows: every key lies between the two, and no smaller span has them all
abbrev pub KeysAreTheEnds : Type 0
KeysAreTheEnds =
    (rs : List Row) → (every (λ r. contains_key (keys_of rs) r.key) rs ≡ true)
    × ((s : Span) → 0 < length rs → every row_fits rs ≡ true → every (λ r. contains_key s r.key) rs ≡ true → (s.from ≤ (keys_of rs).from) × ((keys_of rs).to ≤ s.to))
