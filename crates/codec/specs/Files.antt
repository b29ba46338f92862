-- What a file says, its bounds, and the numbers and bytes that it is.
use Rattle.std.specs.Prelude.{ℕ, ◌+◌, ◌*◌, Bool, cond, ◌&&◌, List, [], ◌∷◌, length, drop, map, Some, None, Option, ◌==◌, nat_le, nat_lt, slice_index, slice_index_or}
use Rattle.rows.specs.declared.row.Row.{Row}
use Rattle.rows.specs.Checks.{some_else}
use Rattle.rows.specs.Numbers.{row}
use Rattle.rows.specs.Rows.{amount_limit}
use Rattle.codec.specs.declared.file.Head.{Head}
use Rattle.codec.specs.declared.file.Rows.{Rows}
use Rattle.codec.specs.Bounds.{is_key, is_word, every}
use Rattle.codec.specs.Seals.{sealed_bytes, unsealed}
use Rattle.codec.specs.Words.{le, words_of}

pub record File : Type 0 where
  pub number : ℕ
  pub began : ℕ
  pub rows : List Row

abbrev pub file : ℕ → ℕ → List Row → File
file number began rows = record { number = number; began = began; rows = rows }

-- bounds
abbrev pub most_rows : ℕ
most_rows = 65536

abbrev pub row_fits : Row → Bool
row_fits r = is_key r.key && nat_lt r.amount amount_limit

abbrev pub count_fits : ℕ → Bool
count_fits n = nat_lt 0 n && nat_le n most_rows

abbrev pub file_fits : File → Bool
file_fits f = is_key f.number && (is_word f.began && (count_fits (length f.rows) && every row_fits f.rows))

-- the numbers of rows, two to each, and back
abbrev pub row_words : List Row → List ℕ
row_words [] = []
row_words (r ∷ rs) = r.key ∷ r.amount ∷ row_words rs

abbrev pub pairs : List ℕ → List Row
pairs [] = []
pairs (k ∷ []) = []
pairs (k ∷ a ∷ ws) = row k a ∷ pairs ws

abbrev pub file_words : File → List ℕ
file_words f = f.number ∷ f.began ∷ length f.rows ∷ row_words f.rows

-- the bytes of a file
unfoldable pub file_bytes : File → List ℕ
file_bytes f = sealed_bytes (file_words f)

-- the head that n numbers have whose first three are these, if they are in their bounds and n is as many as they say
abbrev pub head_from : ℕ → ℕ → ℕ → ℕ → Option Head
head_from n number began count =
    cond (is_key number && (count_fits count && n == 3 + 2 * count)) (Some (record { number = number; began = began; count = count })) None

abbrev pub head_in : List ℕ → Option Head
head_in ws = cond (nat_le 3 (length ws)) (head_from (length ws) (slice_index ws 0) (slice_index ws 1) (slice_index ws 2)) None

abbrev pub with_rows : Head → List Row → Option File
with_rows h rs = cond (every row_fits rs) (Some (file h.number h.began rs)) None

abbrev pub file_from : List ℕ → Option File
file_from ws = some_else (head_in ws) None (λ h. with_rows h (pairs (drop 3 ws)))

-- the file that bytes are
unfoldable pub file_in : List ℕ → Option File
file_in xs = some_else (unsealed xs) None file_from

abbrev pub head_of : File → Head
head_of f = record { number = f.number; began = f.began; count = length f.rows }

abbrev pub row_of : ℕ → ℕ → Option Row
row_of k a = cond (row_fits (row k a)) (Some (row k a)) None

-- the row of a pair that is lent as its bytes, and whether it is in its bounds
abbrev pub row_read : List (List ℕ) → Row
row_read p = row (le (slice_index_or p 0 [])) (le (slice_index_or p 1 []))

abbrev pub row_fitting : Row → Option Row
row_fitting r = cond (row_fits r) (Some r) None

-- the i-th row among the numbers of a file, with no look at the others
abbrev pub row_in : List ℕ → ℕ → Option Row
row_in ws i = cond (nat_le (5 + 2 * i) (length ws)) (row_of (slice_index ws (3 + 2 * i)) (slice_index ws (4 + 2 * i))) None

-- the rows at the front of others that are in their bounds
abbrev pub fitting : List Row → List Row
fitting [] = []
fitting (r ∷ rs) = cond (row_fits r) (r ∷ fitting rs) []

-- the rows that are still to come, and those that bytes give
abbrev pub rows_left : Rows → List Row
rows_left s = fitting (map row_read s.left.now)

abbrev pub rows_from : List ℕ → List Row
rows_from xs = fitting (pairs (drop 3 (words_of xs)))
