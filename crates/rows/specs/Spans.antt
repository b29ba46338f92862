-- Which keys a span has.
use Rattle.std.specs.Prelude.{◌≡◌, ℕ, Bool, true, not, ◌&&◌, nat_le, nat_lt}
use Rattle.rows.specs.declared.span.Span.{Span}

abbrev pub contains_key : Span → ℕ → Bool
contains_key s k = nat_le s.from k && nat_le k s.to

abbrev pub no_keys : Span → Bool
no_keys s = nat_lt s.to s.from

abbrev pub overlap : Span → Span → Bool
overlap a b = not (no_keys a) && (not (no_keys b) && (nat_le a.from b.to && nat_le b.from a.to))

-- what overlapping means: some key lies in both
abbrev pub ShareAKey : Span → Span → Type 0
ShareAKey a b = (k : ℕ) × (contains_key a k ≡ true) × (contains_key b k ≡ true)
