-- The table and its writers, without bounds and bytes: files that are never changed, a log of entries, and writers that begin, look, put and stop.
use Rattle.std.specs.Prelude.{ℕ, ◌+◌, Bool, cond, not, ◌||◌, List, [], ◌∷◌, ◌++◌, map, length, drop, count_by, ◌==◌, nat_eq}
use Rattle.rows.specs.declared.refusal.Refusal.{Refusal}
use Rattle.rows.specs.declared.refusal.Refusal.TheVariants.{IdleWriter, NoSuchVersion}
use Rattle.rows.specs.declared.row.Row.{Row}
use Rattle.rows.specs.Orders.{Order}
use Rattle.codec.specs.Entries.{TableChange}
use Rattle.codec.specs.Files.{File}
use Rattle.versions.specs.Alive.{version}
use Rattle.versions.specs.Conflicts.{any_conflict}
use Rattle.versions.specs.Contents.{rows_of}
use Rattle.versions.specs.Kept.{kept}
use Rattle.versions.specs.Plans.{Plan, plan, planned}

-- an entry: who put it, behind how many others of its own, the order with its rows, and what it does to the files
pub record Entry : Type 0 where
  pub writer : ℕ
  pub serial : ℕ
  pub order : Order
  pub change : TableChange

pub data Writer : Type 0 where
  idle : Writer
  -- the version at which it began, the one up to which it has looked, and the entry that it would put
  ready : ℕ → ℕ → Entry → Writer

pub record Table : Type 0 where
  pub files : List File
  -- the oldest first; the first v of them make version v
  pub entries : List Entry
  pub writers : ℕ → Writer
  -- the number of the next file
  pub next : ℕ

abbrev pub empty : Table
empty = record { files = []; entries = []; writers = λ w. idle; next = 0 }

abbrev pub changes_of : List Entry → List TableChange
changes_of es = map (λ e. e.change) es

abbrev pub orders_of : List Entry → List Order
orders_of es = map (λ e. e.order) es

abbrev pub newest : Table → ℕ
newest t = length t.entries

-- the files of a version, and the rows that are seen when it is read
abbrev pub files_at : Table → ℕ → List ℕ
files_at t v = version (changes_of t.entries) v

unfoldable pub seen : Table → ℕ → List Row
seen t v = rows_of (files_at t v) t.files

-- how many entries of the log a writer put
unfoldable pub own_puts : ℕ → List Entry → ℕ
own_puts w es = count_by (λ e. nat_eq e.writer w) es

pub data Deed : Type 0 where
  -- a writer plans its order on the newest version and writes the new files
  begin : ℕ → Order → Deed
  -- it looks at the entries that came since it looked last
  look : ℕ → Deed
  -- it puts its entry, if nobody has put one behind what it looked at
  put : ℕ → Deed
  -- it stops, wherever it is
  stop : ℕ → Deed
  -- the rows of a version are read
  read : ℕ → Deed

pub data Told : Type 0 where
  fine : Told
  -- somebody was in the way, or it took too long: begin anew
  again : Told
  -- somebody put an entry: look first
  not_yet : Told
  counted : ℕ → Told
  shows : List Row → Told
  refused : Refusal → Told

abbrev pub at_writer : (ℕ → Writer) → ℕ → Writer → ℕ → Writer
at_writer ws w x u = cond (w == u) x (ws u)

abbrev pub with_writer : Table → ℕ → Writer → Table
with_writer t w x = record { files = t.files; entries = t.entries; writers = at_writer t.writers w x; next = t.next }

-- what a writer finds to do at the newest version, and the entry that it would put
abbrev pub plan_at : Table → Order → Plan
plan_at t o = plan o t.next (newest t) (files_at t (newest t)) t.files

abbrev pub entry_at : Table → ℕ → Order → Entry
entry_at t w o = record { writer = w; serial = own_puts w t.entries; order = o; change = planned o t.next (newest t) (files_at t (newest t)) t.files }

unfoldable pub begun : Table → ℕ → Order → Table
begun t w o = record {
  files = t.files ++ (plan_at t o).new;
  entries = t.entries;
  writers = at_writer t.writers w (ready (newest t) (newest t) (entry_at t w o));
  next = t.next + length (plan_at t o).new;
}

-- whether a writer has to begin anew: the version at which it began is no longer kept, or an entry since is in conflict with its own
abbrev pub must_begin_anew : ℕ → Table → ℕ → ℕ → Entry → Bool
must_begin_anew h t b v e = not (kept h (newest t) b) || any_conflict e.change (drop v (changes_of t.entries))

unfoldable pub looked : ℕ → Table → ℕ → Writer → Table
looked h t w idle = t
looked h t w (ready b v e) = with_writer t w (cond (must_begin_anew h t b v e) idle (ready b (newest t) e))

unfoldable pub look_told : ℕ → Table → ℕ → Writer → Told
look_told h t w idle = refused (IdleWriter w)
look_told h t w (ready b v e) = cond (must_begin_anew h t b v e) again fine

abbrev pub with_entry : Table → ℕ → Entry → Table
with_entry t w e = record { files = t.files; entries = t.entries ++ e ∷ []; writers = at_writer t.writers w idle; next = t.next }

unfoldable pub put_by : Table → ℕ → Writer → Table
put_by t w idle = t
put_by t w (ready b v e) = cond (v == newest t) (with_entry t w e) t

unfoldable pub put_told : Table → ℕ → Writer → Told
put_told t w idle = refused (IdleWriter w)
put_told t w (ready b v e) = cond (v == newest t) (counted e.change.touched) not_yet

-- the table after a deed, and what is told
unfoldable pub step : ℕ → Table → Deed → Table
step h t (begin w o) = begun t w o
step h t (look w) = looked h t w (t.writers w)
step h t (put w) = put_by t w (t.writers w)
step h t (stop w) = with_writer t w idle
step h t (read v) = t

unfoldable pub told : ℕ → Table → Deed → Told
told h t (begin w o) = fine
told h t (look w) = look_told h t w (t.writers w)
told h t (put w) = put_told t w (t.writers w)
told h t (stop w) = fine
told h t (read v) = cond (kept h (newest t) v) (shows (seen t v)) (refused (NoSuchVersion v))

-- the table after a list of deeds, and all that is told
unfoldable pub end : ℕ → Table → List Deed → Table
end h t [] = t
end h t (d ∷ ds) = end h (step h t d) ds

unfoldable pub all_told : ℕ → Table → List Deed → List Told
all_told h t [] = []
all_told h t (d ∷ ds) = told h t d ∷ all_told h (step h t d) ds
