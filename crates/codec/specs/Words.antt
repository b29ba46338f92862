-- Bytes and the numbers that they write, eight bytes to each, the least byte first.
use Rattle.std.specs.Prelude.{ℕ, zero, suc, ◌+◌, ◌*◌, ◌/◌, ◌%◌, ◌^◌, ◌<◌, cond, List, [], ◌∷◌, ◌++◌, length, take, drop, map, Some, None, Option, nat_le}
use Rattle.std.specs.List.{AllByRecursion}

abbrev pub AreBytes : List ℕ → Type 0
AreBytes xs = AllByRecursion (λ b. b < 256) xs

abbrev pub AreWords : List ℕ → Type 0
AreWords ws = AllByRecursion (λ w. w < 2 ^ 64) ws

-- the number that bytes write
abbrev pub le : List ℕ → ℕ
le [] = 0
le (b ∷ bs) = b + le bs * 256

-- the numbers that are lent as their bytes
abbrev pub numbers : List (List ℕ) → List ℕ
numbers ws = map le ws

-- the number that the eight bytes from a byte on write; none where they are cut short
abbrev pub word_from : ℕ → List ℕ → Option ℕ
word_from at xs = cond (nat_le (at + 8) (length xs)) (Some (le (take 8 (drop at xs)))) None

-- the k lowest bytes of a number
abbrev pub bytes_le : ℕ → ℕ → List ℕ
bytes_le zero x = []
bytes_le (suc k) x = x % 256 ∷ bytes_le k (x / 256)

-- what a write of ys at a place leaves of xs
abbrev pub put_at : ℕ → List ℕ → List ℕ → List ℕ
put_at i ys xs = take i xs ++ (ys ++ drop (i + length ys) xs)

-- the bytes of numbers
unfoldable pub bytes_of : List ℕ → List ℕ
bytes_of [] = []
bytes_of (w ∷ ws) = bytes_le 8 w ++ bytes_of ws

-- the first n numbers that bytes write
unfoldable pub words : ℕ → List ℕ → List ℕ
words zero xs = []
words (suc n) xs = le (take 8 xs) ∷ words n (drop 8 xs)

abbrev pub words_of : List ℕ → List ℕ
words_of xs = words (length xs / 8) xs
