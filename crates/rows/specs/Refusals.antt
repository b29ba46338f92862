-- Refusals by number and place.
use Rattle.std.specs.Prelude.{ℕ, ◌+◌, ◌^◌, Bool, false, cond, List, ◌++◌, Ok, Err, codes, decimal, MatchBool, Result, ◌==◌, nat_le}
use Rattle.rows.specs.declared.refusal.Refusal.{Refusal}
use Rattle.rows.specs.declared.refusal.Refusal.TheVariants.{HorizonTooLarge, NoSuchWriter, NoSuchOrder, IdleWriter, NoSuchVersion, NoRoom, TooLarge, LogFull, DamagedFile, DamagedEntry, OutOfMemory}

abbrev pub number_of : Refusal → ℕ
number_of (HorizonTooLarge h) = 1
number_of (NoSuchWriter w) = 2
number_of (NoSuchOrder i) = 3
number_of (IdleWriter w) = 4
number_of (NoSuchVersion v) = 5
number_of (NoRoom n) = 6
number_of (TooLarge n) = 7
number_of LogFull = 8
number_of (DamagedFile n) = 9
number_of (DamagedEntry k) = 9
number_of OutOfMemory = 13

abbrev pub place_of : Refusal → ℕ
place_of (HorizonTooLarge h) = h
place_of (NoSuchWriter w) = w
place_of (NoSuchOrder i) = i
place_of (IdleWriter w) = w
place_of (NoSuchVersion v) = v
place_of (NoRoom n) = n
place_of (TooLarge n) = n
place_of LogFull = 65536
place_of (DamagedFile n) = n
place_of (DamagedEntry k) = 2 ^ 32 + k
place_of OutOfMemory = 0

-- the line that tells of a refusal
abbrev pub text_of : Refusal → List ℕ
text_of e = codes "refused " ++ (decimal (number_of e) ++ (codes " at " ++ decimal (place_of e)))

-- whether memory ran out
abbrev pub ran_out : {A : Type 0} → Result A Refusal → Bool
ran_out (Ok x) = false
ran_out (Err e) = number_of e == 13

-- what is promised of an answer, unless memory ran out: that may come in the place of any answer
abbrev pub UnlessOut : {A : Type 0} → Result A Refusal → Type 0 → Type 0
UnlessOut r P = MatchBool (ran_out r) (Unit {0}) P

abbrev pub most_horizon : ℕ
most_horizon = 4096

-- a number as a horizon, unless it is above the largest
abbrev pub horizon_from : ℕ → Result ℕ Refusal
horizon_from h = cond (nat_le h most_horizon) (Ok h) (Err (HorizonTooLarge h))
