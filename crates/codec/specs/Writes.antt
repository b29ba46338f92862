-- What is written of a file to lent memory, and what is told of it.
use Rattle.std.specs.Prelude.{ℕ, ◌%◌, Bool, cond, ◌&&◌, List, ◌++◌, length, drop, Some, None, Option, ◌==◌, nat_le}
use Rattle.rows.specs.declared.span.Span.{Span}
use Rattle.codec.specs.declared.write.Written.{Written}
use Rattle.codec.specs.Bounds.{every}
use Rattle.codec.specs.Files.{File, file, row_fits, file_fits, pairs, file_bytes}
use Rattle.codec.specs.Keys.{keys_of}

-- what is told of a file that was written
abbrev pub told_of : File → Written
told_of f = record { length = length (file_bytes f); keys = keys_of f.rows }

-- whether a file can be written to so much room
unfoldable pub writes : File → ℕ → Bool
writes f room = file_fits f && nat_le (length (file_bytes f)) room

-- a file written to the front of lent bytes; nothing where it is out of its bounds or does not fit
abbrev pub file_written : File → List ℕ → Option Written × List ℕ
file_written f out = cond (writes f (length out)) (Some (told_of f), file_bytes f ++ drop (length (file_bytes f)) out) (None, out)

-- a file of lent rows, key and amount of each
abbrev pub lent_written : ℕ → ℕ → List ℕ → List ℕ → Option Written × List ℕ
lent_written number began lent out = cond (length lent % 2 == 0) (file_written (file number began (pairs lent)) out) (None, out)

-- the keys of lent rows that are in their bounds
abbrev pub lent_keys : List ℕ → Option Span
lent_keys lent = cond (every row_fits (pairs lent)) (Some (keys_of (pairs lent))) None
