-- What each deed tells, and all that memory holds afterwards.
use Rattle.std.specs.Prelude.{ℕ, zero, suc, ◌+◌, ◌-◌, Bool, true, false, cond, List, Some, None, Ok, Err, Option, Result, ◌==◌, nat_le, nat_lt, slice_index_or, slice_set}
use Rattle.rows.specs.declared.refusal.Refusal.{Refusal}
use Rattle.rows.specs.declared.refusal.Refusal.TheVariants.{NoSuchWriter, IdleWriter, LogFull, DamagedEntry}
use Rattle.rows.specs.declared.row.Row.{Row}
use Rattle.rows.specs.Checks.{some_else}
use Rattle.rows.specs.declared.span.Span.{Span}
use Rattle.codec.specs.declared.action.Action.{Action}
use Rattle.codec.specs.declared.action.Action.TheVariants.{Insert, Erase, Raise, Pack}
use Rattle.codec.specs.Entries.{TableChange, LogEntry, writer_limit}
use Rattle.store.specs.declared.unput.Unput.{Unput}
use Rattle.store.specs.Log.{Log, put_entry}
use Rattle.store.specs.Unputs.{unput_refusal}
use Rattle.store.specs.StoreLaws.{entry_under}
use Rattle.versions.specs.Conflicts.{conflict}
use Rattle.versions.specs.Kept.{kept}
use Rattle.versions.specs.Reading.{rows_at}
use Rattle.writers.specs.Memory.{Pending, Memory, with_pending}
use Rattle.writers.specs.Model.{Told, fine, again, not_yet, counted, shows, refused}

-- refused, and nothing has changed
abbrev pub refuse : Memory → Refusal → Told × Memory
refuse m e = (refused e, m)

-- a deed of a writer, if there is such a one
abbrev pub if_writer : Memory → ℕ → Told × Memory → Told × Memory
if_writer m w done = cond (nat_lt w writer_limit) done (refuse m (NoSuchWriter w))

-- a deed of a ready writer
abbrev pub if_ready : Memory → ℕ → (Pending → Told × Memory) → Told × Memory
if_ready m w done = if_writer m w (some_else (slice_index_or m.writers w None) (refuse m (IdleWriter w)) done)

unfoldable pub stop_done : ℕ → Memory → Told × Memory
stop_done w m = if_writer m w (fine, with_pending m w None)

-- the entry that a ready writer puts
abbrev pub entry_for : ℕ → ℕ → Pending → LogEntry
entry_for w k p = record { place = k; writer = w; serial = p.serial; change = p.change }

abbrev pub put_told_by : Memory → ℕ → Pending → Result ℕ Unput × Log → Told × Memory
put_told_by m w p (Ok v, l) = (counted p.change.touched, record { horizon = m.horizon; files = m.files; log = l; writers = slice_set m.writers w None })
put_told_by m w p (Err u, l) = refuse m (unput_refusal u)

-- a full log is told first, then that the writer has not looked up to the newest version
unfoldable pub put_done : ℕ → Memory → Told × Memory
put_done w m =
    if_ready m w (λ p.
    cond (nat_le 65536 m.log.count) (refuse m LogFull)
    (cond (p.looked == m.log.count) (put_told_by m w p (put_entry (entry_for w m.log.count p) m.log)) (not_yet, m)))

-- the span in which an action changes rows
abbrev pub span_of : Action → Option Span
span_of Insert = None
span_of (Erase s) = Some s
span_of (Raise s n) = Some s
span_of (Pack m) = None

-- whether so many entries from a place on have one in conflict; they are opened in order, up to the first that is none or in conflict
unfoldable pub conflict_among : TableChange → Log → ℕ → ℕ → Result Bool Refusal
conflict_among mine l zero k = Ok false
conflict_among mine l (suc n) k =
    some_else (entry_under l k) (Err (DamagedEntry k)) (λ e. cond (conflict mine e.change) (Ok true) (conflict_among mine l n (k + 1)))

abbrev pub look_told_by : Memory → ℕ → Pending → Result Bool Refusal → Told × Memory
look_told_by m w p (Ok true) = (again, with_pending m w None)
look_told_by m w p (Ok false) = (fine, with_pending m w (Some (record { began = p.began; looked = m.log.count; serial = p.serial; change = p.change })))
look_told_by m w p (Err e) = refuse m e

unfoldable pub look_done : ℕ → Memory → Told × Memory
look_done w m =
    if_ready m w (λ p.
    cond (kept m.horizon m.log.count p.began)
    (look_told_by m w p (conflict_among p.change m.log (m.log.count - p.looked) p.looked))
    (again, with_pending m w None))

abbrev pub rows_told : Result (List Row) Refusal → Told
rows_told (Ok rs) = shows rs
rows_told (Err e) = refused e

unfoldable pub read_done : ℕ → Memory → Told × Memory
read_done v m = (rows_told (rows_at m.horizon m.files m.log v), m)
