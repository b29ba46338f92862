-- The first entries of a log, as they lie in memory.
use Rattle.std.specs.Prelude.{ℕ, ◌+◌, min, Bool, cond, ◌&&◌, List, [], ◌∷◌, map, Some, None, Ok, Err, vec_items, count_by, Option, Result, ◌==◌, nat_eq}
use Rattle.std.specs.Option.{option_map}
use Rattle.rows.specs.declared.refusal.Refusal.{Refusal}
use Rattle.rows.specs.declared.refusal.Refusal.TheVariants.{DamagedEntry}
use Rattle.codec.specs.Entries.{TableChange, LogEntry, entry_of}
use Rattle.store.specs.Log.{Log}
use Rattle.store.specs.StoreLaws.{entry_under}
use Rattle.versions.specs.declared.history.History.{History}
use Rattle.versions.specs.Alive.{alive}
use Rattle.versions.specs.Gathering.{gathered, counting}

-- the entry at a place, opened
abbrev pub entry_found : Log → ℕ → Option (List LogEntry)
entry_found l k = option_map (λ e. e ∷ []) (entry_under l k)

-- the entries below a version, as far as there are any, or the first that is none
unfoldable pub history_in : Log → ℕ → Result (List LogEntry) Refusal
history_in l v = gathered (entry_found l) DamagedEntry (counting (min v l.count) 0)

-- the entries that the code holds
abbrev pub entries_of : History → List LogEntry
entries_of h = map entry_of (vec_items h.entries)

abbrev pub history_of : Result History Refusal → Result (List LogEntry) Refusal
history_of (Ok h) = Ok (entries_of h)
history_of (Err e) = Err e

abbrev pub changes : List LogEntry → List TableChange
changes es = map (λ e. e.change) es

-- the files that entries leave
unfoldable pub live_of : List LogEntry → List ℕ
live_of es = alive (changes es) []

-- how many entries bear a writer
unfoldable pub puts_by : ℕ → List LogEntry → ℕ
puts_by writer es = count_by (λ e. nat_eq e.writer writer) es

-- the entry that a writer put behind so many others of its own
abbrev pub is_put : ℕ → ℕ → LogEntry → Bool
is_put writer serial e = e.writer == writer && e.serial == serial

-- the place of the first element that passes, counted from one on
unfoldable pub first_place : {A : Type 0} → (A → Bool) → ℕ → List A → Option ℕ
first_place p k [] = None
first_place p k (x ∷ xs) = cond (p x) (Some k) (first_place p (k + 1) xs)
