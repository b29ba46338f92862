-- One deed: the ways that a look and a put go, the files that are written, and that the log only grows.
use Rattle.std.proofs.Common.{◌≡◌, ℕ, ◌+◌, ◌≤◌, Bool, true, false, cond, eqb, List, [], ◌∷◌, length, refl, ap, ◌∙◌, arith}
use Rattle.std.proofs.lemmas.Bool.{eqb-true}
use Rattle.rows.specs.declared.refusal.Refusal.TheVariants.{IdleWriter}
use Rattle.codec.specs.Files.{File}
use Rattle.versions.proofs.PlanLaws.{Block, plan_laid}
use Rattle.writers.specs.Model.{Entry, Writer, idle, ready, Table, newest, files_at, Deed, begin, look, put, stop, read, Told, fine, again, not_yet, counted, refused, with_writer, plan_at, begun, must_begin_anew, looked, look_told, with_entry, put_by, put_told, step, told}
use Rattle.writers.proofs.Logs.{Grown, grown_same}

-- what holds of the table and of what is told, whichever way a look or a put goes
module _ (h : ℕ) (t : Table) (w : ℕ) (P : Table → Told → Type 0) where
  pub look_ways : P t (refused (IdleWriter w)) → P (with_writer t w idle) again
      → ((b v : ℕ) (e : Entry) → t.writers w ≡ ready b v e → must_begin_anew h t b v e ≡ false → P (with_writer t w (ready b (newest t) e)) fine)
      → P (step h t (look w)) (told h t (look w))
  unfolding step told looked look_told
  look_ways none stops goes = way (t.writers w) refl
    where
      way : (x : Writer) → t.writers w ≡ x → P (looked h t w x) (look_told h t w x)
      way idle q = none
      way (ready b v e) q = test (must_begin_anew h t b v e) refl
        where
          test : (m : Bool) → must_begin_anew h t b v e ≡ m → P (with_writer t w (cond m idle (ready b (newest t) e))) (cond m again fine)
          test true k = stops
          test false k = goes b v e q k

  pub put_ways : P t (refused (IdleWriter w)) → P t not_yet
      → ((b : ℕ) (e : Entry) → t.writers w ≡ ready b (newest t) e → P (with_entry t w e) (counted e.change.touched))
      → P (step h t (put w)) (told h t (put w))
  unfolding step told put_by put_told
  put_ways none waits puts = way (t.writers w) refl
    where
      way : (x : Writer) → t.writers w ≡ x → P (put_by t w x) (put_told t w x)
      way idle q = none
      way (ready b v e) q = test (eqb v (newest t)) refl
        where
          test : (m : Bool) → eqb v (newest t) ≡ m → P (cond m (with_entry t w e) t) (cond m (counted e.change.touched) not_yet)
          test true k = puts b e (q ∙ ap (λ z. ready b z e) (eqb-true v (newest t) k))
          test false k = waits

-- the files that a deed writes: their numbers follow one another from the next one on
abbrev pub news : Table → Deed → List File
news t (begin w o) = (plan_at t o).new
news t (look w) = []
news t (put w) = []
news t (stop w) = []
news t (read v) = []

pub news_block : (t : Table) (d : Deed) → Block t.next (news t d)
news_block t (begin w o) = (plan_laid o t.next (newest t) (files_at t (newest t)) t.files).block
news_block t (look w) = tt
news_block t (put w) = tt
news_block t (stop w) = tt
news_block t (read v) = tt

pub step_next : (h : ℕ) (t : Table) (d : Deed) → t.next + length (news t d) ≤ (step h t d).next
unfolding step begun
step_next h t (begin w o) = omega arith
step_next h t (look w) = look_ways h t w (λ u _. t.next + 0 ≤ u.next) (omega arith) (omega arith) (λ b v e q k. omega arith)
step_next h t (put w) = put_ways h t w (λ u _. t.next + 0 ≤ u.next) (omega arith) (omega arith) (λ b e q. omega arith)
step_next h t (stop w) = omega arith
step_next h t (read v) = omega arith

pub step_grows : (h : ℕ) (t : Table) (d : Deed) → Grown t.entries (step h t d).entries
unfolding step begun
step_grows h t (begin w o) = grown_same t.entries
step_grows h t (look w) = look_ways h t w (λ u _. Grown t.entries u.entries) (grown_same t.entries) (grown_same t.entries) (λ b v e q k. grown_same t.entries)
step_grows h t (put w) = put_ways h t w (λ u _. Grown t.entries u.entries) (grown_same t.entries) (grown_same t.entries) (λ b e q. (e ∷ [], refl))
step_grows h t (stop w) = grown_same t.entries
step_grows h t (read v) = grown_same t.entries
