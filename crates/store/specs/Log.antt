-- The entries of a log that lies in memory: back to back, the first at 0, and where each of them ends.
use Rattle.std.specs.Prelude.{ℕ, ◌+◌, ◌-◌, ◌<◌, ◌≤◌, cond, ◌&&◌, List, length, take, drop, Some, None, Ok, Err, Option, Result, ◌==◌, nat_le, nat_lt, slice_index, slice_set}
use Rattle.rows.specs.Checks.{some_else}
use Rattle.rows.specs.declared.refusal.Refusal.TheVariants.{LogFull, NoRoom}
use Rattle.codec.specs.Entries.{LogEntry, entry_in, entry_bytes, entry_length}
use Rattle.codec.specs.Words.{put_at}
use Rattle.store.specs.declared.Store.{Store}
use Rattle.store.specs.declared.unput.Unput.{Unput}
use Rattle.store.specs.declared.unput.Unput.TheVariants.{Refused, OtherPlace, OutOfBounds}

-- where the first so many entries end
abbrev pub log_end : List ℕ → ℕ → Option ℕ
log_end ends n = cond (n == 0) (Some 0) (cond (nat_le n (length ends)) (Some (slice_index ends (n - 1))) None)

-- where an entry begins and ends, if that lies in a log so long
abbrev pub bounds_of : List ℕ → ℕ → ℕ → Option (ℕ × ℕ)
bounds_of ends long k =
    cond (nat_lt k (length ends)) (some_else (log_end ends k) None (λ start. cond (nat_le start (slice_index ends k) && nat_le (slice_index ends k) long) (Some (start, slice_index ends k)) None)) None

-- the bytes of an entry
abbrev pub entry_bytes_at : List ℕ → List ℕ → ℕ → Option (List ℕ)
entry_bytes_at ends log k = some_else (bounds_of ends (length log) k) None (λ b. Some (take (b.1 - b.0) (drop b.0 log)))

-- the entry that bytes are, if it bears a place
abbrev pub entry_placed : ℕ → List ℕ → Option LogEntry
entry_placed k bs = some_else (entry_in bs) None (λ e. cond (e.place == k) (Some e) None)

-- the entry at a place of a log that has so many
unfoldable pub entry_at : ℕ → List ℕ → List ℕ → ℕ → Option LogEntry
entry_at count ends log k = cond (nat_lt k count) (some_else (entry_bytes_at ends log k) None (entry_placed k)) None

-- where the next entry goes, if there is a place for its end and the log reaches so far
abbrev pub next_start : List ℕ → ℕ → ℕ → Option ℕ
next_start ends long n = cond (nat_lt n (length ends)) (some_else (log_end ends n) None (λ start. cond (nat_le start long) (Some start) None)) None

abbrev pub bytes_left : List ℕ → ℕ → ℕ → ℕ
bytes_left ends long n = some_else (log_end ends n) 0 (λ end. long - end)

abbrev pub no_bytes : {A : Type 0} → List ℕ → ℕ → ℕ → Result A Unput
no_bytes ends long n = Err (Refused (NoRoom (bytes_left ends long n)))

-- where an entry would go behind so many others, and how long it is, if it can be put
abbrev pub place_for : LogEntry → ℕ → List ℕ → ℕ → Result (ℕ × ℕ) Unput
place_for e count ends long =
    cond (nat_le 65536 count) (Err (Refused LogFull))
    (cond (e.place == count)
    (some_else (entry_length e) (Err OutOfBounds) (λ n.
    some_else (next_start ends long count) (no_bytes ends long count) (λ start.
    cond (nat_le n (long - start)) (Ok (start, n)) (no_bytes ends long count))))
    (Err OtherPlace))

-- what is told of a put, how many entries there are then, and where they end, and all of the log
pub record Log : Type 0 where
  pub count : ℕ
  pub ends : List ℕ
  pub bytes : List ℕ

abbrev pub log_of : Store → List ℕ → List ℕ → Log
log_of s ends bytes = record { count = s.entries; ends = ends; bytes = bytes }

abbrev pub put_there : LogEntry → Log → Result (ℕ × ℕ) Unput → Result ℕ Unput × Log
put_there e l (Ok p) = (Ok (l.count + 1), record { count = l.count + 1; ends = slice_set l.ends l.count (p.0 + p.1); bytes = put_at p.0 (entry_bytes e) l.bytes })
put_there e l (Err u) = (Err u, l)

unfoldable pub put_entry : LogEntry → Log → Result ℕ Unput × Log
put_entry e l = put_there e l (place_for e l.count l.ends (length l.bytes))

-- a log that puts have made: there is an end for each entry, the ends do not fall, and they lie in the log
abbrev pub SoundLog : Log → Type 0
SoundLog l =
    (l.count ≤ length l.ends)
    × ((j k : ℕ) → j ≤ k → k < l.count → slice_index l.ends j ≤ slice_index l.ends k)
    × ((k : ℕ) → k < l.count → slice_index l.ends k ≤ length l.bytes)
