-- The rows of a version, as they lie in memory.
use Rattle.std.specs.Prelude.{ℕ, cond, List, Err, Result}
use Rattle.rows.specs.declared.refusal.Refusal.{Refusal}
use Rattle.rows.specs.declared.refusal.Refusal.TheVariants.{NoSuchVersion}
use Rattle.rows.specs.declared.row.Row.{Row}
use Rattle.rows.specs.Checks.{and_then}
use Rattle.store.specs.Log.{Log}
use Rattle.store.specs.Putting.{Files}
use Rattle.versions.specs.FilesHeld.{rows_held}
use Rattle.versions.specs.Histories.{history_in, live_of}
use Rattle.versions.specs.Kept.{kept}

-- first the entries below the version are opened, then it is asked whether it is kept, then its files are opened
unfoldable pub rows_at : ℕ → Files → Log → ℕ → Result (List Row) Refusal
rows_at horizon s l v =
    and_then (history_in l v) (λ es. cond (kept horizon l.count v) (rows_held s (live_of es)) (Err (NoSuchVersion v)))
