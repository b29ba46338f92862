-- What the invariant says of kept versions, and so of every run: they have all their files, never change, and hold their orders done one after the other.
use Rattle.std.proofs.Common.{◌≡◌, ℕ, ◌+◌, ◌≤◌, true, List, [], map, take, sym, ap, ◌∙◌, arith}
use Rattle.rows.specs.declared.row.Row.{Row}
use Rattle.rows.specs.Orders.{pack, done_to}
use Rattle.rows.specs.Rows.{Alike}
use Rattle.rows.proofs.Rows.{alike_same, alike_sym, alike_trans}
use Rattle.versions.specs.Alive.{version}
use Rattle.versions.specs.Contents.{all_there, rows_by}
use Rattle.versions.specs.Kept.{kept}
use Rattle.versions.proofs.ContentLaws.{whole_there, whole_rows}
use Rattle.versions.proofs.KeptLaws.{kept_parts, kept_before, kept_later}
use Rattle.writers.specs.Model.{Entry, Table, empty, changes_of, orders_of, newest, files_at, seen, Deed, end}
use Rattle.versions.specs.VersionLaws.{Stands}
use Rattle.writers.specs.WriterLaws.{in_turn, done_by, all_done, Atomic, Serializable, PacksChangeNoRows}
use Rattle.writers.proofs.Logs.{Grown, grown_length, version_old, turns_next}
use Rattle.writers.proofs.Invariant.{Inv}
use Rattle.writers.proofs.Puts.{run_done, signed_empty}
use Rattle.writers.proofs.Runs.{Kind, reached, reached_both, run_grows, writers_deeds}

-- a kept version of a table at which the invariant holds
module _ (contents : ℕ → List Row) (h : ℕ) (t : Table) (i : Inv contents h t) where
  pub kept_there : (v : ℕ) → kept h (newest t) v ≡ true → all_there (files_at t v) t.files ≡ true
  kept_there v k = whole_there (files_at t v) t.files (i.whole v k)

  pub kept_rows : (v : ℕ) → kept h (newest t) v ≡ true → seen t v ≡ rows_by contents (files_at t v)
  unfolding seen
  kept_rows v k = whole_rows contents (files_at t v) t.files i.faithful (i.whole v k)

  pub kept_turns : (v : ℕ) → kept h (newest t) v ≡ true → Alike (seen t v) (in_turn (take v (orders_of t.entries)) [])
  kept_turns v k = alike_trans _ _ _ (alike_same _ _ (kept_rows v k)) (i.log.turns v (kept_parts h (newest t) v k).0)

  pub packs_alike : (v m : ℕ) (e : Entry) → Stands t.entries v e → e.order ≡ pack m → kept h (newest t) v ≡ true → Alike (seen t v) (seen t (v + 1))
  unfolding done_to
  packs_alike v m e s q k =
      let turn = in_turn (take v (orders_of t.entries)) [] in
      let same : in_turn (take (v + 1) (orders_of t.entries)) [] ≡ turn = turns_next t.entries v e s ∙ ap (λ o. done_to o turn) q in
      let later = kept_later h (newest t) v (v + 1) (omega arith) (omega (arith, s.0)) k in
      alike_trans _ _ _ (kept_turns v k) (alike_trans _ _ _ (alike_same _ _ (sym same)) (alike_sym _ _ (kept_turns (v + 1) later)))

-- a version that is still kept when the log has grown
pub kept_same : (contents : ℕ → List Row) (h : ℕ) (t u : Table) → Inv contents h t → Inv contents h u → Grown t.entries u.entries
    → (v : ℕ) → v ≤ newest t → kept h (newest u) v ≡ true → (files_at u v ≡ files_at t v) × (seen u v ≡ seen t v)
kept_same contents h t u i j g v l k =
    let same : files_at u v ≡ files_at t v = ap (λ z. version (changes_of z) v) g.1 ∙ version_old t.entries g.0 v l in
    let before = kept_before h (newest t) (newest u) v l (grown_length t.entries u.entries g) k in
    (same, kept_rows contents h u j v k ∙ ap (rows_by contents) same ∙ sym (kept_rows contents h t i v before))

-- at the end of a run of deeds of any kind, and of one that goes on
module _ {h : ℕ} {D : Type 0} (kind : Kind h D) (ds : List D) where
  pub run_there : (v : ℕ) → kept h (newest (kind.end_of empty ds)) v ≡ true → all_there (files_at (kind.end_of empty ds) v) (kind.end_of empty ds).files ≡ true
  run_there = kept_there _ h (kind.end_of empty ds) (reached kind ds)

  pub run_turns : (v : ℕ) → kept h (newest (kind.end_of empty ds)) v ≡ true → Alike (seen (kind.end_of empty ds) v) (in_turn (take v (orders_of (kind.end_of empty ds).entries)) [])
  run_turns = kept_turns _ h (kind.end_of empty ds) (reached kind ds)

  pub run_same : (more : List D) (v : ℕ) →
      let t = kind.end_of empty ds in
      let u = kind.end_of t more in
      v ≤ newest t → kept h (newest u) v ≡ true → (files_at u v ≡ files_at t v) × (seen u v ≡ seen t v)
  run_same more =
      let t = kind.end_of empty ds in
      let both = reached_both kind ds more in
      kept_same _ h t (kind.end_of t more) both.0 both.1 (run_grows kind t more)

pub serializable : Serializable
serializable h ds = run_turns (writers_deeds h) ds

pub packs_change_no_rows : PacksChangeNoRows
packs_change_no_rows h ds = packs_alike _ h (end h empty ds) (reached (writers_deeds h) ds)

-- the entries are the puts that were told a count
pub entries_are_done : (h : ℕ) (ds : List Deed) → map done_by (end h empty ds).entries ≡ all_done h empty (λ w. pack 0) ds
entries_are_done h ds = run_done h empty (λ w. pack 0) ds signed_empty (λ w. tt)

pub atomic : Atomic
atomic h ds =
    let kind = writers_deeds h in
    (entries_are_done h ds, (reached kind ds).log.counts, run_there kind ds, run_same kind ds)
