-- The rows that files hold, file by file.
use Rattle.std.specs.Prelude.{ℕ, Bool, cond, List, [], ◌∷◌, ◌==◌, nat_eq}
use Rattle.std.specs.List.{flat_map}
use Rattle.rows.specs.declared.row.Row.{Row}
use Rattle.rows.specs.Checks.{any}
use Rattle.codec.specs.Bounds.{every}
use Rattle.codec.specs.Files.{File}

-- whether a file of this number is there
unfoldable pub there : ℕ → List File → Bool
there n fs = any (λ f. nat_eq n f.number) fs

unfoldable pub all_there : List ℕ → List File → Bool
all_there ns fs = every (λ n. there n fs) ns

-- the rows of the file of a number; none where there is none
unfoldable pub rows_under : ℕ → List File → List Row
rows_under n [] = []
rows_under n (f ∷ fs) = cond (n == f.number) f.rows (rows_under n fs)

-- the rows of some files, one after the other, where each number has its rows for good
abbrev pub rows_by : (ℕ → List Row) → List ℕ → List Row
rows_by contents ns = flat_map contents ns

-- the rows of some files, one after the other
abbrev pub rows_of : List ℕ → List File → List Row
rows_of ns fs = rows_by (λ n. rows_under n fs) ns
