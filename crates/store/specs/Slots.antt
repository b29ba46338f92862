-- The files of a store that lie in memory: slots of one size, and a directory with two numbers for each of them, the file's number plus one (0: free) and its length.
use Rattle.std.specs.Prelude.{ℕ, zero, suc, ◌+◌, ◌-◌, ◌*◌, ◌/◌, ◌^◌, min, Bool, cond, List, [], ◌∷◌, ◌++◌, length, take, drop, Some, None, Ok, Err, vec_items, Option, Result, Vec, ◌==◌, nat_eq, nat_le, slice_index, slice_set}
use Rattle.std.specs.declared.alloc.Global.{Global}
use Rattle.rows.specs.declared.refusal.Refusal.{Refusal}
use Rattle.rows.specs.Checks.{some_else}
use Rattle.codec.specs.Files.{file_in, head_of}
use Rattle.store.specs.declared.files.Stored.{Stored}

-- how many bytes a slot has, which takes a file of so many rows
abbrev pub slot_size : ℕ → ℕ
slot_size most = 8 * (4 + 2 * most)

-- how many slots a directory and file bytes so long have
abbrev pub slots : ℕ → ℕ → ℕ → ℕ
slots most marks bytes = min (marks / 2) (bytes / slot_size most)

abbrev pub mark_at : List ℕ → ℕ → ℕ
mark_at directory i = slice_index directory (2 * i)

abbrev pub length_at : List ℕ → ℕ → ℕ
length_at directory i = slice_index directory (1 + 2 * i)

-- the first so many slots as the directory has them, two numbers each
abbrev pub slots_in : ℕ → List ℕ → List (List ℕ)
slots_in zero directory = []
slots_in (suc n) directory = take 2 directory ∷ slots_in n (drop 2 directory)

-- whether a slot has a mark
abbrev pub is_marked : ℕ → List ℕ → Bool
is_marked mark slot = slice_index slot 0 == mark

-- the first of so many numbers from i on that passes
abbrev pub first_from : (ℕ → Bool) → ℕ → ℕ → Option ℕ
first_from p zero i = None
first_from p (suc n) i = cond (p i) (Some i) (first_from p n (i + 1))

-- the first slot with a mark
unfoldable pub slot_with : List ℕ → ℕ → ℕ → Option ℕ
slot_with directory n mark = first_from (λ i. nat_eq (mark_at directory i) mark) n 0

-- how many of the first slots are free
abbrev pub free_below : List ℕ → ℕ → ℕ
free_below directory zero = 0
free_below directory (suc n) = free_below directory n + cond (mark_at directory n == 0) 1 0

-- how many files more there is room for: free slots, and numbers below 2^32
abbrev pub room_for : ℕ → List ℕ → ℕ → ℕ
room_for next directory n = min (free_below directory n) (2 ^ 32 - next)

-- the bytes of a slot; none where it says that they are more than it has
abbrev pub slot_bytes : ℕ → List ℕ → List ℕ → ℕ → List ℕ
slot_bytes most directory files i = cond (nat_le (length_at directory i) (slot_size most)) (take (length_at directory i) (drop (i * slot_size most) files)) []

-- where the file of a slot lies, and its head, if it bears a number
abbrev pub stored_at : ℕ → List ℕ → List ℕ → ℕ → ℕ → Option Stored
stored_at most directory files number i =
    some_else (file_in (slot_bytes most directory files i)) None (λ f.
    cond (f.number == number) (Some (record { part = record { start = i * slot_size most; length = length_at directory i }; head = head_of f })) None)

-- the file under a number
unfoldable pub stored : ℕ → List ℕ → List ℕ → ℕ → Option Stored
stored most directory files number = some_else (slot_with directory (slots most (length directory) (length files)) (number + 1)) None (stored_at most directory files number)

-- the numbers of the first slots, without the free ones
abbrev pub numbers_below : List ℕ → ℕ → List ℕ
numbers_below directory zero = []
numbers_below directory (suc n) = numbers_below directory n ++ cond (mark_at directory n == 0) [] ((mark_at directory n - 1) ∷ [])

-- a directory whose first slots with a mark are free
abbrev pub freed : List ℕ → ℕ → ℕ → List ℕ
freed directory mark zero = directory
freed directory mark (suc n) = cond (mark_at directory n == mark) (slice_set (freed directory mark n) (2 * n) 0) (freed directory mark n)

-- what the code lists
abbrev pub items_of : {A : Type 0} → Result (Vec A Global) Refusal → Result (List A) Refusal
items_of (Ok v) = Ok (vec_items v)
items_of (Err e) = Err e
