-- Where a reading of bytes stands.
use Rattle.std.specs.Prelude.{ℕ, Ok, Err, Result}
use Rattle.store.specs.declared.reader.Reader.{Reader}
use Rattle.store.specs.declared.unread.Unread.{Unread}

-- the byte at which a reading stands, or why it went no further
abbrev pub at_of : Result Reader Unread → Result ℕ Unread
at_of (Ok r) = Ok r.at
at_of (Err u) = Err u
