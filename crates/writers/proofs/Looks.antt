-- What a ready writer is told when it looks and when it puts.
use Rattle.std.proofs.Common.{◌≡◌, ℕ, ◌+◌, ◌-◌, ◌<◌, ◌≤◌, true, false, cond, eqb, List, [], ◌∷◌, length, get_or, drop, Decides, sym, refl, ap, ◌∙◌, inl, inr, arith}
use Rattle.std.specs.List.{HoldsAt}
use Rattle.std.proofs.lemmas.List.{length-map, length-drop, drop_all, get_or-drop, get_or_default}
use Rattle.std.proofs.lemmas.Bool.{eq-eqb, cases_Bool, not-true, not_from_true, not_from_false, or_from, cond-true, cond-false}
use Rattle.std.proofs.lemmas.Bool.Decides.{nat_tests, Decides-like, Decides-or, Decides-by_or}
use Rattle.rows.specs.Checks.{any}
use Rattle.rows.specs.declared.row.Row.{Row}
use Rattle.rows.specs.Orders.{Order, insert}
use Rattle.codec.specs.declared.action.Action.TheVariants.{Insert}
use Rattle.codec.specs.Entries.{TableChange}
use Rattle.versions.specs.Conflicts.{shares, misses, conflict, any_conflict}
use Rattle.versions.specs.Kept.{kept}
use Rattle.versions.specs.Plans.{action_of}
use Rattle.versions.proofs.KeptLaws.{kept_newest}
use Rattle.writers.specs.Model.{Entry, Writer, idle, ready, Table, changes_of, newest, seen, at_writer, with_writer, with_entry, entry_at, begun, must_begin_anew, looked, look_told, put_by, put_told, look, put, fine, again, not_yet, counted, step, told, end, empty}
use Rattle.versions.specs.VersionLaws.{Stands}
use Rattle.writers.specs.WriterLaws.{InTheWay, AgainOnlyInConflict, AloneSucceeds, FirstPutCounts, InsertsNeverConflict}
use Rattle.writers.proofs.Invariant.{Inv, ready_sound}
use Rattle.writers.proofs.Runs.{reached, writers_deeds}

-- a writer in its place
pub writer_there : (ws : ℕ → Writer) (w : ℕ) (x : Writer) → at_writer ws w x w ≡ x
writer_there ws w x = cond-true (eqb w w) x (ws w) (eq-eqb w w refl)

-- an entry since a version that is in conflict
abbrev pub ConflictSince : TableChange → List TableChange → ℕ → Type 0
ConflictSince mine cs v = (k : ℕ) × (c : TableChange) × (v ≤ k) × Stands cs k c × (conflict mine c ≡ true)

pub conflict_tells : (mine : TableChange) (cs : List TableChange) (v : ℕ) → Decides (any_conflict mine (drop v cs)) (ConflictSince mine cs v)
unfolding any_conflict
conflict_tells mine cs v =
    Decides-like (any_conflict mine (drop v cs)) out back
    (Decides-by_or (conflict mine) (λ c. conflict mine c ≡ true) (any (conflict mine)) (λ c. (λ q. q, λ q. q)) refl (λ _ _. refl) (drop v cs))
  where
    Left : Type 0
    Left = (k : ℕ) × (k < length (drop v cs)) × HoldsAt (λ c. conflict mine c ≡ true) (drop v cs) k

    out : Left → ConflictSince mine cs v
    out (k, l, p) =
        let c = get_or (drop v cs) k mine in
        let there : v + k < length cs = omega (arith, length-drop v cs) in
        (v + k, c, omega arith, (there, get_or_default cs (v + k) c mine there ∙ sym (get_or-drop v cs k mine)), p mine)

    back : ConflictSince mine cs v → Left
    back (k, c, l, s, e) =
        let place : v + (k - v) ≡ k = omega arith in (
          k - v,
          omega (arith, length-drop v cs, s.0),
          λ d. ap (conflict mine) (get_or-drop v cs (k - v) d ∙ ap (λ n. get_or cs n d) place ∙ get_or_default cs k d c s.0 ∙ s.1) ∙ e,
        )

pub must_tells : (h : ℕ) (t : Table) (b v : ℕ) (e : Entry) → Decides (must_begin_anew h t b v e) (InTheWay h t b v e)
must_tells h t b v e = Decides-or _ _ (not-true _, not_from_false _) (conflict_tells e.change (changes_of t.entries) v)

-- at a ready writer
module _ (h : ℕ) (t : Table) (w b v : ℕ) (e : Entry) (q : t.writers w ≡ ready b v e) where
  pub look_ready : told h t (look w) ≡ cond (must_begin_anew h t b v e) again fine
  unfolding told look_told
  look_ready = ap (look_told h t w) q

  pub put_ready : told h t (put w) ≡ cond (eqb v (newest t)) (counted e.change.touched) not_yet
  unfolding told put_told
  put_ready = ap (put_told t w) q

  pub looked_ready : step h t (look w) ≡ with_writer t w (cond (must_begin_anew h t b v e) idle (ready b (newest t) e))
  unfolding step looked
  looked_ready = ap (looked h t w) q

  pub put_by_ready : step h t (put w) ≡ cond (eqb v (newest t)) (with_entry t w e) t
  unfolding step put_by
  put_by_ready = ap (put_by t w) q

pub again_only_in_conflict : AgainOnlyInConflict
again_only_in_conflict h t w b v e q =
    let m = must_begin_anew h t b v e in
    let tell = look_ready h t w b v e q in (
      λ a. (must_tells h t b v e).0 (grind (arith, nat_tests)),
      λ i. tell ∙ cond-true m again fine ((must_tells h t b v e).1 i),
      elim (cases_Bool m) [ inl p ↦ inl (tell ∙ cond-true m again fine p) | inr p ↦ inr (tell ∙ cond-false m again fine p) ],
    )

pub first_put_counts : FirstPutCounts
first_put_counts h t w b e q =
    let here : eqb (newest t) (newest t) ≡ true = eq-eqb (newest t) (newest t) refl in (
      put_ready h t w b (newest t) e q ∙ cond-true _ _ not_yet here,
      ap (λ z. z.entries) (put_by_ready h t w b (newest t) e q ∙ cond-true _ (with_entry t w e) t here),
    )

-- nobody came between
pub none_between : (h : ℕ) (t : Table) (b : ℕ) (e : Entry) → kept h (newest t) b ≡ true → must_begin_anew h t b (newest t) e ≡ false
unfolding any_conflict
none_between h t b e k =
    or_from _ _ (not_from_true _ k)
    (ap (any_conflict e.change) (drop_all (newest t) (changes_of t.entries) (omega (arith, length-map t.entries (λ x. x.change)))))

-- a writer that begins, and looks before anybody puts
module _ (h : ℕ) (t : Table) (w : ℕ) (o : Order) where
  abbrev pub begun_writer : Writer
  begun_writer = ready (newest t) (newest t) (entry_at t w o)

  pub begun_ready : (begun t w o).writers w ≡ begun_writer
  unfolding begun
  begun_ready = writer_there t.writers w begun_writer

  pub begun_alone : (told h (begun t w o) (look w) ≡ fine) × (step h (begun t w o) (look w) ≡ with_writer (begun t w o) w begun_writer)
  unfolding begun
  begun_alone =
      let a = begun t w o in
      let e = entry_at t w o in
      let free = none_between h a (newest t) e (kept_newest h (newest t)) in (
        look_ready h a w (newest t) (newest t) e begun_ready ∙ cond-false _ again fine free,
        looked_ready h a w (newest t) (newest t) e begun_ready ∙ ap (with_writer a w) (cond-false _ idle begun_writer free),
      )

pub alone_succeeds : AloneSucceeds
unfolding step told begun seen
alone_succeeds h ds w o =
    let t = end h empty ds in
    let a = begun t w o in
    let x = begun_writer h t w o in
    let looks = begun_alone h t w o in (
      refl,
      looks.0,
      ap (λ z. told h z (put w)) looks.1 ∙ (first_put_counts h (with_writer a w x) w (newest t) (entry_at t w o) (writer_there a.writers w x)).0,
    )

-- a change that takes nothing and only inserts is in conflict with none
pub insert_free : (mine : TableChange) (cs : List TableChange) → mine.takes ≡ [] → mine.action ≡ Insert → any_conflict mine cs ≡ false
unfolding any_conflict conflict shares
insert_free mine [] p q = refl
insert_free mine (c ∷ cs) p q =
    or_from _ _ (or_from _ _ (ap (λ z. shares z c.takes) p) (ap (λ z. misses z c.adds) q)) (insert_free mine cs p q)

pub look_insert : (contents : ℕ → List Row) (h : ℕ) (t : Table) (w b v : ℕ) (e : Entry) (rs : List Row) → Inv contents h t
    → t.writers w ≡ ready b v e → e.order ≡ insert rs → kept h (newest t) b ≡ true → told h t (look w) ≡ fine
look_insert contents h t w b v e rs i q o k =
    let r = ready_sound contents h t i w b v e q in
    look_ready h t w b v e q
    ∙ cond-false _ again fine (or_from _ _ (not_from_true _ k) (insert_free e.change _ (r.free rs o) (r.fits.named ∙ ap action_of o)))

pub inserts_never_conflict : InsertsNeverConflict
inserts_never_conflict h ds w b v e rs = look_insert _ h (end h empty ds) w b v e rs (reached (writers_deeds h) ds)
