-- The numbers that stand for the kinds of orders.
use Rattle.std.specs.Prelude.{◌≡◌, ℕ, ◌<◌, MatchResult, Result}
use Rattle.rows.specs.declared.kind.Kind.{Kind}
use Rattle.rows.specs.declared.kind.Kind.TheVariants.{Insert, Erase, Raise, Pack}
use Rattle.rows.specs.declared.kind.UnknownKind.{UnknownKind}

abbrev pub number_of_kind : Kind → ℕ
number_of_kind Insert = 0
number_of_kind Erase = 1
number_of_kind Raise = 2
number_of_kind Pack = 3

-- the kind that a number stands for, or an error above the last
abbrev pub IsKindFrom : ℕ → Result Kind UnknownKind → Type 0
IsKindFrom n r = MatchResult r (λ kind. number_of_kind kind ≡ n) (λ _. 3 < n)
