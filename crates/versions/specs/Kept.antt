-- Which versions are kept.
use Rattle.std.specs.Prelude.{ℕ, ◌+◌, Bool, ◌&&◌, nat_le}

-- whether a version is at most so many before the newest
abbrev pub recent : ℕ → ℕ → ℕ → Bool
recent horizon newest v = nat_le newest (v + horizon)

-- the versions that may be read, and at which a writer may have begun: they are there, and not too old
unfoldable pub kept : ℕ → ℕ → ℕ → Bool
kept horizon newest v = nat_le v newest && recent horizon newest v

-- the versions whose files cleaning leaves: the same today, and asked apart
unfoldable pub kept_by_cleaning : ℕ → ℕ → ℕ → Bool
kept_by_cleaning horizon newest v = nat_le v newest && recent horizon newest v
