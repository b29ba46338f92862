-- Which files a version has: those that its entries added and did not take, in the order of coming.
use Rattle.std.specs.Prelude.{ℕ, Bool, not, List, [], ◌∷◌, ◌++◌, map, take, filter, nat_eq}
use Rattle.rows.specs.Checks.{any}
use Rattle.codec.specs.declared.entry.Added.{Added}
use Rattle.codec.specs.Entries.{TableChange}

-- whether a number stands in a list
unfoldable pub has : List ℕ → ℕ → Bool
has ns n = any (nat_eq n) ns

-- the numbers that are not taken
unfoldable pub minus : List ℕ → List ℕ → List ℕ
minus ns takes = filter (λ n. not (has takes n)) ns

abbrev pub numbers : List Added → List ℕ
numbers adds = map (λ a. a.number) adds

-- the files of a table after one change
abbrev pub after : List ℕ → TableChange → List ℕ
after live c = minus live c.takes ++ numbers c.adds

-- the files of a table after some changes, the oldest first
unfoldable pub alive : List TableChange → List ℕ → List ℕ
alive [] live = live
alive (c ∷ cs) live = alive cs (after live c)

-- the files of a version; above the newest, those of the newest
unfoldable pub version : List TableChange → ℕ → List ℕ
version cs v = alive (take v cs) []
