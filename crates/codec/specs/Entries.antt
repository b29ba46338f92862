-- What an entry says, its bounds, and the numbers and bytes that it is.
use Rattle.std.specs.Prelude.{ℕ, ◌+◌, ◌*◌, Bool, cond, ◌&&◌, List, [], ◌∷◌, ◌++◌, length, take, drop, Some, None, Ok, Err, vec_items, Option, Result, ◌==◌, nat_le, nat_lt, slice_index, slice_index_or}
use Rattle.std.specs.Option.{option_map}
use Rattle.rows.specs.declared.refusal.Refusal.{Refusal}
use Rattle.rows.specs.Checks.{some_else}
use Rattle.codec.specs.declared.action.Action.{Action}
use Rattle.codec.specs.declared.entry.Added.{Added}
use Rattle.codec.specs.declared.entry.Change.{Change}
use Rattle.codec.specs.declared.entry.Entry.{Entry}
use Rattle.codec.specs.declared.entry.Front.{Front}
use Rattle.codec.specs.Bounds.{is_key, is_word, every}
use Rattle.codec.specs.Actions.{span, action_words, action_fits, action_in}
use Rattle.codec.specs.Seals.{sealed_bytes, unsealed, written}

-- what an entry does to one table
pub record TableChange : Type 0 where
  pub action : Action
  pub touched : ℕ
  pub adds : List Added
  pub takes : List ℕ

pub record LogEntry : Type 0 where
  pub place : ℕ
  pub writer : ℕ
  pub serial : ℕ
  pub change : TableChange

abbrev pub change_of : Change → TableChange
change_of c = record { action = c.action; touched = c.touched; adds = vec_items c.adds; takes = vec_items c.takes }

abbrev pub entry_of : Entry → LogEntry
entry_of e = record { place = e.place; writer = e.writer; serial = e.serial; change = change_of e.change }

-- bounds: writers, files, and that every number is written as eight bytes
abbrev pub writer_limit : ℕ
writer_limit = 16

abbrev pub added_fits : Added → Bool
added_fits a = is_key a.number && (nat_le a.keys.from a.keys.to && is_key a.keys.to)

abbrev pub files_fit : List Added → List ℕ → Bool
files_fit adds takes = (is_word (length adds) && every added_fits adds) && (is_word (length takes) && every is_key takes)

abbrev pub change_fits : TableChange → Bool
change_fits c = action_fits c.action && (is_word c.touched && files_fit c.adds c.takes)

abbrev pub entry_fits : LogEntry → Bool
entry_fits e = is_word e.place && (nat_lt e.writer writer_limit && (is_word e.serial && change_fits e.change))

-- the numbers of added files, three to each
abbrev pub added_words : List Added → List ℕ
added_words [] = []
added_words (a ∷ adds) = a.number ∷ a.keys.from ∷ a.keys.to ∷ added_words adds

-- the seven numbers before those of the files
abbrev pub change_head : TableChange → List ℕ
change_head c = action_words c.action ++ c.touched ∷ length c.adds ∷ length c.takes ∷ []

abbrev pub change_words : TableChange → List ℕ
change_words c = change_head c ++ (added_words c.adds ++ c.takes)

abbrev pub entry_head : LogEntry → List ℕ
entry_head e = e.place ∷ e.writer ∷ e.serial ∷ change_head e.change

abbrev pub entry_words : LogEntry → List ℕ
entry_words e = e.place ∷ e.writer ∷ e.serial ∷ change_words e.change

-- the bytes of an entry
unfoldable pub entry_bytes : LogEntry → List ℕ
entry_bytes e = sealed_bytes (entry_words e)

-- how many numbers an entry with such files has before its sum, and whether these are in their bounds and its length fits 64 bits
abbrev pub count_with : List Added → List ℕ → ℕ
count_with adds takes = 10 + 3 * length adds + length takes

abbrev pub files_writable : List Added → List ℕ → Bool
files_writable adds takes = files_fit adds takes && is_word (8 * (count_with adds takes + 1))

-- whether an entry can be written: it is in its bounds, and its length fits 64 bits
unfoldable pub writable : LogEntry → Bool
writable e = entry_fits e && is_word (length (entry_bytes e))

-- what stands before the files of an entry that can be written, and how many numbers before its sum
abbrev pub front_of : LogEntry → Option Front
front_of e = cond (writable e) (Some (record { head = entry_head e; count = length (entry_words e) })) None

-- how many bytes an entry takes
abbrev pub entry_length : LogEntry → Option ℕ
entry_length e = cond (writable e) (Some (length (entry_bytes e))) None

-- what an entry leaves of lent bytes, and how long it is; nothing where it is out of its bounds or does not fit
abbrev pub entry_written : LogEntry → List ℕ → Option ℕ × List ℕ
entry_written e out = cond (writable e) (written (entry_bytes e) out) (None, out)

abbrev pub added_of : ℕ → ℕ → ℕ → Added
added_of n from to = record { number = n; keys = span from to }

-- the added files that numbers are
abbrev pub adds_in : List ℕ → Option (List Added)
adds_in [] = Some []
adds_in (n ∷ []) = None
adds_in (n ∷ from ∷ []) = None
adds_in (n ∷ from ∷ to ∷ ws) = cond (added_fits (added_of n from to)) (option_map (λ adds. added_of n from to ∷ adds) (adds_in ws)) None

-- the numbers of taken files, each below its limit
abbrev pub takes_in : List ℕ → Option (List ℕ)
takes_in [] = Some []
takes_in (n ∷ ws) = cond (is_key n) (option_map (λ takes. n ∷ takes) (takes_in ws)) None

-- a change of its parts, if all are there
abbrev pub change_made : Option Action → ℕ → Option (List Added) → Option (List ℕ) → Option TableChange
change_made None t adds takes = None
change_made (Some a) t None takes = None
change_made (Some a) t (Some adds) None = None
change_made (Some a) t (Some adds) (Some takes) = Some (record { action = a; touched = t; adds = adds; takes = takes })

-- whether there are as many numbers as the two counts say
abbrev pub is_whole : List ℕ → Bool
is_whole ws = nat_le 7 (length ws) && length ws == 7 + 3 * slice_index ws 5 + slice_index ws 6

-- the change that numbers are
unfoldable pub change_from : List ℕ → Option TableChange
change_from ws =
    let files = drop 7 ws in
    let many = 3 * slice_index_or ws 5 0 in
    cond (is_whole ws) (change_made (action_in (slice_index ws 0) (slice_index ws 1) (slice_index ws 2) (slice_index ws 3)) (slice_index ws 4) (adds_in (take many files)) (takes_in (drop many files))) None

abbrev pub entry_from : List ℕ → Option LogEntry
entry_from ws =
    cond (nat_lt (slice_index ws 1) writer_limit) (option_map (λ c. record { place = slice_index ws 0; writer = slice_index ws 1; serial = slice_index ws 2; change = c }) (change_from (drop 3 ws))) None

-- the entry that bytes are
unfoldable pub entry_in : List ℕ → Option LogEntry
entry_in xs = some_else (unsealed xs) None entry_from

-- what the code reads
abbrev pub entry_read : Result (Option Entry) Refusal → Result (Option LogEntry) Refusal
entry_read (Ok o) = Ok (option_map entry_of o)
entry_read (Err e) = Err e
