-- The rows of a version, by what was opened.
use Rattle.std.proofs.Common.{◌≡◌, ℕ, true, false, cond, List, Ok, Err, Result, ap, ◌∙◌}
use Rattle.rows.specs.declared.refusal.Refusal.{Refusal}
use Rattle.rows.specs.declared.refusal.Refusal.TheVariants.{NoSuchVersion}
use Rattle.rows.specs.declared.row.Row.{Row}
use Rattle.rows.specs.Checks.{and_then}
use Rattle.codec.specs.Entries.{LogEntry}
use Rattle.store.specs.Log.{Log}
use Rattle.store.specs.Putting.{Files}
use Rattle.versions.specs.FilesHeld.{rows_held}
use Rattle.versions.specs.Histories.{history_in, live_of}
use Rattle.versions.specs.Kept.{kept}
use Rattle.versions.specs.Reading.{rows_at}

module _ (h : ℕ) (s : Files) (l : Log) (v : ℕ) where
  abbrev then_rows : List LogEntry → Result (List Row) Refusal
  then_rows es = cond (kept h l.count v) (rows_held s (live_of es)) (Err (NoSuchVersion v))

  pub read_damaged : (e : Refusal) → ◌≡◌ {A = Result (List LogEntry) Refusal} (Err e) (history_in l v) → ◌≡◌ {A = Result (List Row) Refusal} (Err e) (rows_at h s l v)
  unfolding rows_at
  read_damaged e p = ap (λ r. and_then r then_rows) p

  module _ (es : List LogEntry) (p : Ok es ≡ history_in l v) where
    pub read_old : false ≡ kept h l.count v → Err (NoSuchVersion v) ≡ rows_at h s l v
    unfolding rows_at
    read_old q = ap (λ b. cond b (rows_held s (live_of es)) (Err (NoSuchVersion v))) q ∙ ap (λ r. and_then r then_rows) p

    pub read_kept : true ≡ kept h l.count v → rows_held s (live_of es) ≡ rows_at h s l v
    unfolding rows_at
    read_kept q = ap (λ b. cond b (rows_held s (live_of es)) (Err (NoSuchVersion v))) q ∙ ap (λ r. and_then r then_rows) p
