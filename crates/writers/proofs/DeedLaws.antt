-- What deeds do to memory, case by case.
use Rattle.std.proofs.Common.{◌≡◌, ℕ, ◌-◌, ◌<◌, ◌≤◌, Bool, true, false, cond, eqb, ltb, leb, List, get_or, Some, None, Ok, Err, MatchBool, Result, sym, refl, ap, ◌∙◌}
use Rattle.rows.specs.Refusals.{number_of, UnlessOut}
use Rattle.rows.specs.declared.refusal.Refusal.{Refusal}
use Rattle.rows.specs.declared.refusal.Refusal.TheVariants.{NoSuchWriter, IdleWriter, LogFull}
use Rattle.std.proofs.lemmas.Bool.{le-ltb, lt-ltb, cond-true, cond-false, le-leb, lt-leb, eq-eqb, ne_eqb}
use Rattle.rows.specs.Checks.{some_else}
use Rattle.store.specs.declared.unput.Unput.{Unput}
use Rattle.store.specs.Log.{Log, put_entry}
use Rattle.rows.specs.declared.row.Row.{Row}
use Rattle.versions.specs.Kept.{kept}
use Rattle.versions.specs.Reading.{rows_at}
use Rattle.writers.specs.Answers.{Does}
use Rattle.writers.specs.Deeds.{refuse, if_writer, if_ready, stop_done, entry_for, put_told_by, put_done, conflict_among, look_told_by, look_done, rows_told, read_done}
use Rattle.writers.specs.Memory.{Pending, Memory, with_pending}
use Rattle.writers.specs.Model.{Told, fine, again, not_yet, shows, refused}

-- a refusal is as it is defined, or memory ran out
pub refused_does : (e : Refusal) (m : Memory) (done : Told × Memory) (P : Type 0) → (P → ◌≡◌ {A = Told × Memory} (refused e, m) done) → UnlessOut {A = Unit} (Err e) P → Does (refused e) m m done
refused_does e m done P f h = go (eqb (number_of e) 13) h
  where
    go : (b : Bool) → MatchBool b (Unit {0}) P → MatchBool b (m ≡ m) (◌≡◌ {A = Told × Memory} (refused e, m) done)
    go true p = refl
    go false p = f p

module _ (v : ℕ) (m : Memory) where
  pub read_shown : (rs : List Row) → Ok rs ≡ rows_at m.horizon m.files m.log v → ◌≡◌ {A = Told × Memory} (shows rs, m) (read_done v m)
  unfolding read_done
  read_shown rs e = ap (λ r. (rows_told r, m)) e

  pub read_refused : (e : Refusal) → UnlessOut {A = Unit} (Err e) (Err e ≡ rows_at m.horizon m.files m.log v) → Does (refused e) m m (read_done v m)
  unfolding read_done
  read_refused e h = refused_does e m (rows_told (rows_at m.horizon m.files m.log v), m) (Err e ≡ rows_at m.horizon m.files m.log v) (λ p. ap (λ r. (rows_told r, m)) p) h

-- no such writer, and a writer that stops
module _ (w : ℕ) (m : Memory) where
  pub writer_none : (done : Told × Memory) → 16 ≤ w → ◌≡◌ {A = Told × Memory} (refused (NoSuchWriter w), m) (if_writer m w done)
  writer_none done h = sym (cond-false (ltb w 16) done (refused (NoSuchWriter w), m) (le-ltb w 16 h))

  pub writer_some : (done : Told × Memory) → w < 16 → done ≡ if_writer m w done
  writer_some done h = sym (cond-true (ltb w 16) done (refused (NoSuchWriter w), m) (lt-ltb w 16 h))

  pub stop_refused : 16 ≤ w → ◌≡◌ {A = Told × Memory} (refused (NoSuchWriter w), m) (stop_done w m)
  unfolding stop_done
  stop_refused h = writer_none (fine, with_pending m w None) h

  pub stop_fine : w < 16 → ◌≡◌ {A = Told × Memory} (fine, with_pending m w None) (stop_done w m)
  unfolding stop_done
  stop_fine h = writer_some (fine, with_pending m w None) h

-- a writer that is idle, or ready
module _ (w : ℕ) (m : Memory) (there : w < 16) where
  pub ready_none : (done : Pending → Told × Memory) → None ≡ get_or m.writers w None → ◌≡◌ {A = Told × Memory} (refused (IdleWriter w), m) (if_ready m w done)
  ready_none done e = ap (λ o. some_else {B = Told × Memory} o (refused (IdleWriter w), m) done) e ∙ writer_some w m (some_else (get_or m.writers w None) (refused (IdleWriter w), m) done) there

  pub ready_some : (done : Pending → Told × Memory) (p : Pending) → Some p ≡ get_or m.writers w None → done p ≡ if_ready m w done
  ready_some done p e = ap (λ o. some_else {B = Told × Memory} o (refused (IdleWriter w), m) done) e ∙ writer_some w m (some_else (get_or m.writers w None) (refused (IdleWriter w), m) done) there

-- a put, case by case
module _ (w : ℕ) (m : Memory) where
  abbrev put_of : Pending → Told × Memory
  put_of p =
      cond (leb 65536 m.log.count) (refuse m LogFull)
      (cond (eqb p.looked m.log.count) (put_told_by m w p (put_entry (entry_for w m.log.count p) m.log)) (not_yet, m))

  pub put_nobody : 16 ≤ w → ◌≡◌ {A = Told × Memory} (refused (NoSuchWriter w), m) (put_done w m)
  unfolding put_done
  put_nobody e = writer_none w m (some_else (get_or m.writers w None) (refuse m (IdleWriter w)) put_of) e

  module _ (there : w < 16) where
    pub put_idle : None ≡ get_or m.writers w None → ◌≡◌ {A = Told × Memory} (refused (IdleWriter w), m) (put_done w m)
    unfolding put_done
    put_idle e = ready_none w m there put_of e

    module _ (p : Pending) (ready : Some p ≡ get_or m.writers w None) where
      pub put_full : 65536 ≤ m.log.count → ◌≡◌ {A = Told × Memory} (refused LogFull, m) (put_done w m)
      unfolding put_done
      put_full h = sym (cond-true (leb 65536 m.log.count) _ _ (le-leb 65536 m.log.count h)) ∙ ready_some w m there put_of p ready

      module _ (room : m.log.count < 65536) where
        put_rest : cond (eqb p.looked m.log.count) (put_told_by m w p (put_entry (entry_for w m.log.count p) m.log)) (not_yet, m) ≡ put_done w m
        unfolding put_done
        put_rest = sym (cond-false (leb 65536 m.log.count) _ _ (lt-leb 65536 m.log.count room)) ∙ ready_some w m there put_of p ready

        pub put_not_yet : (p.looked ≡ m.log.count → ⊥) → ◌≡◌ {A = Told × Memory} (not_yet, m) (put_done w m)
        put_not_yet h = sym (cond-false (eqb p.looked m.log.count) _ _ (ne_eqb p.looked m.log.count h)) ∙ put_rest

        pub put_tried : (r : Result ℕ Unput × Log) → p.looked ≡ m.log.count → r ≡ put_entry (entry_for w m.log.count p) m.log → put_told_by m w p r ≡ put_done w m
        put_tried r h e = ap (put_told_by m w p) e ∙ sym (cond-true (eqb p.looked m.log.count) _ _ (eq-eqb p.looked m.log.count h)) ∙ put_rest

-- a look, case by case
module _ (w : ℕ) (m : Memory) where
  abbrev look_of : Pending → Told × Memory
  look_of p =
      cond (kept m.horizon m.log.count p.began)
      (look_told_by m w p (conflict_among p.change m.log (m.log.count - p.looked) p.looked))
      (again, with_pending m w None)

  pub look_nobody : 16 ≤ w → ◌≡◌ {A = Told × Memory} (refused (NoSuchWriter w), m) (look_done w m)
  unfolding look_done
  look_nobody e = writer_none w m (some_else (get_or m.writers w None) (refuse m (IdleWriter w)) look_of) e

  module _ (there : w < 16) where
    pub look_idle : None ≡ get_or m.writers w None → ◌≡◌ {A = Told × Memory} (refused (IdleWriter w), m) (look_done w m)
    unfolding look_done
    look_idle e = ready_none w m there look_of e

    module _ (p : Pending) (ready : Some p ≡ get_or m.writers w None) where
      pub look_late : false ≡ kept m.horizon m.log.count p.began → ◌≡◌ {A = Told × Memory} (again, with_pending m w None) (look_done w m)
      unfolding look_done
      look_late e = sym (cond-false (kept m.horizon m.log.count p.began) _ _ (sym e)) ∙ ready_some w m there look_of p ready

      pub look_tried : (r : Result Bool Refusal) → true ≡ kept m.horizon m.log.count p.began → r ≡ conflict_among p.change m.log (m.log.count - p.looked) p.looked → look_told_by m w p r ≡ look_done w m
      unfolding look_done
      look_tried r e h = ap (look_told_by m w p) h ∙ sym (cond-true (kept m.horizon m.log.count p.began) _ _ (sym e)) ∙ ready_some w m there look_of p ready
