-- Tests of bounds.
use Rattle.std.specs.Prelude.{ℕ, ◌^◌, Bool, List, nat_lt}
use Rattle.std.specs.List.{list_all}
use Rattle.rows.specs.Numbers.{key_limit}

-- keys, the numbers of files and what a raise adds are below 2^32
abbrev pub is_key : ℕ → Bool
is_key n = nat_lt n key_limit

-- what is written as eight bytes
abbrev pub is_word : ℕ → Bool
is_word n = nat_lt n (2 ^ 64)

-- whether all of a list passes
abbrev pub every : {A : Type 0} → (A → Bool) → List A → Bool
every p xs = list_all p xs
