-- Numbers with their sum behind them, and bytes that are written to lent memory.
use Rattle.std.specs.Prelude.{ℕ, ◌-◌, ◌/◌, ◌%◌, ◌^◌, cond, ◌&&◌, List, [], ◌∷◌, ◌++◌, length, take, drop, Some, None, sum, Option, ◌==◌, nat_le, nat_lt, slice_index}
use Rattle.codec.specs.Words.{words_of, bytes_of}

abbrev pub sealed : List ℕ → List ℕ
sealed ws = ws ++ (sum ws % 2 ^ 64) ∷ []

abbrev pub sealed_bytes : List ℕ → List ℕ
sealed_bytes ws = bytes_of (sealed ws)

-- the numbers before the sum; none where bytes are left over, there is no sum, or it is another
unfoldable pub unsealed : List ℕ → Option (List ℕ)
unsealed xs =
    let n = length xs / 8 - 1 in
    cond (length xs % 8 == 0 && (nat_lt 0 (length xs) && slice_index (words_of xs) n == sum (take n (words_of xs)) % 2 ^ 64)) (Some (take n (words_of xs))) None

-- what is written to the front of lent bytes, and how much; nothing where it does not fit
abbrev pub written : List ℕ → List ℕ → Option ℕ × List ℕ
written bs out = cond (nat_le (length bs) (length out)) (Some (length bs), bs ++ drop (length bs) out) (None, out)
