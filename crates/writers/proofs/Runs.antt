-- Whole runs of deeds of any kind: the files that are ever written give each number its rows, and the invariant holds at the end.
use Rattle.std.proofs.Common.{◌≡◌, ℕ, ◌+◌, ◌≤◌, List, [], ◌∷◌, ◌++◌, length, sym, refl, ap, ◌∙◌, subst, append_assoc, arith}
use Rattle.std.proofs.lemmas.Bool.{eq-eqb, ne_eqb, cond-true, cond-false}
use Rattle.rows.specs.declared.row.Row.{Row}
use Rattle.codec.specs.Files.{File}
use Rattle.versions.specs.Contents.{rows_under}
use Rattle.versions.specs.VersionLaws.{Faithful}
use Rattle.versions.proofs.ListLaws.{all_left, all_right}
use Rattle.versions.proofs.PlanLaws.{Block}
use Rattle.writers.specs.Model.{Table, empty, Deed, step, end}
use Rattle.writers.proofs.Logs.{Grown, grown_same, grown_trans}
use Rattle.writers.proofs.Steps.{news, news_block, step_next, step_grows}
use Rattle.writers.proofs.Invariant.{Inv, inv_empty, inv_step}

-- files with numbers that rise: each number is there once
abbrev pub Rising : ℕ → List File → Type 0
Rising n [] = Unit {0}
Rising n (f ∷ fs) = (n ≤ f.number) × Rising (f.number + 1) fs

rising_from : (m n : ℕ) (fs : List File) → m ≤ n → Rising n fs → Rising m fs
rising_from m n [] l r = tt
rising_from m n (f ∷ fs) l r = (omega (arith, r.0), r.1)

rising_block : (n : ℕ) (fs gs : List File) → Block n fs → Rising (n + length fs) gs → Rising n (fs ++ gs)
rising_block n [] gs b r = rising_from n (n + 0) gs (omega arith) r
rising_block n (f ∷ fs) gs b r = (
  omega (arith, b.0),
  rising_from (f.number + 1) (n + 1) (fs ++ gs) (omega (arith, b.0))
      (rising_block (n + 1) fs gs b.1 (rising_from (n + 1 + length fs) (n + length (f ∷ fs)) gs (omega arith) r)),
)

faithful_above : (c d : ℕ → List Row) (n : ℕ) (fs : List File) → Rising n fs → ((k : ℕ) → n ≤ k → c k ≡ d k) → Faithful c fs → Faithful d fs
faithful_above c d n [] r e p = tt
faithful_above c d n (f ∷ fs) r e p = (
  p.0 ∙ e f.number r.0,
  faithful_above c d (f.number + 1) fs r.1 (λ k l. e k (omega (arith, r.0))) p.1,
)

pub rising_faithful : (n : ℕ) (fs : List File) → Rising n fs → Faithful (λ k. rows_under k fs) fs
unfolding rows_under
rising_faithful n [] r = tt
rising_faithful n (f ∷ fs) r = (
  sym (cond-true _ f.rows _ (eq-eqb f.number f.number refl)),
  faithful_above (λ k. rows_under k fs) (λ k. rows_under k (f ∷ fs)) (f.number + 1) fs r.1
      (λ k l. sym (cond-false _ f.rows (rows_under k fs) (ne_eqb k f.number (λ e. omega arith)))) (rising_faithful (f.number + 1) fs r.1),
)

-- a kind of deeds: what one does and what many do, the files that one writes, that the log only grows, and that the invariant is kept
pub record Kind (h : ℕ) (D : Type 0) : Type 0 where
  pub after : Table → D → Table
  pub end_of : Table → List D → Table
  pub none : (t : Table) → end_of t [] ≡ t
  pub more : (t : Table) (d : D) (ds : List D) → end_of t (d ∷ ds) ≡ end_of (after t d) ds
  pub writes : Table → D → List File
  pub block : (t : Table) (d : D) → Block t.next (writes t d)
  pub next : (t : Table) (d : D) → t.next + length (writes t d) ≤ (after t d).next
  pub grows : (t : Table) (d : D) → Grown t.entries (after t d).entries
  pub keeps : (contents : ℕ → List Row) (t : Table) (d : D) → Inv contents h t → Faithful contents (writes t d) → Inv contents h (after t d)

module _ {h : ℕ} {D : Type 0} (kind : Kind h D) where
  abbrev pub written : Table → List D → List File
  written t [] = []
  written t (d ∷ ds) = kind.writes t d ++ written (kind.after t d) ds

  pub inv_run : (contents : ℕ → List Row) (t : Table) (ds : List D) → Inv contents h t → Faithful contents (written t ds) → Inv contents h (kind.end_of t ds)
  inv_run contents t [] i f = subst (Inv contents h) (sym (kind.none t)) i
  inv_run contents t (d ∷ ds) i f =
      let first = kind.writes t d in
      let rest = written (kind.after t d) ds in
      subst (Inv contents h) (sym (kind.more t d ds))
      (inv_run contents (kind.after t d) ds (kind.keeps contents t d i (all_left _ first rest f)) (all_right _ first rest f))

  pub written_rising : (t : Table) (ds : List D) → Rising t.next (written t ds)
  written_rising t [] = tt
  written_rising t (d ∷ ds) =
      rising_block t.next (kind.writes t d) (written (kind.after t d) ds) (kind.block t d)
      (rising_from (t.next + length (kind.writes t d)) (kind.after t d).next (written (kind.after t d) ds) (kind.next t d) (written_rising (kind.after t d) ds))

  -- the rows that each number has for good, in a run from the empty table
  pub contents : List D → ℕ → List Row
  contents ds n = rows_under n (written empty ds)

  pub contents_faithful : (ds : List D) → Faithful (contents ds) (written empty ds)
  unfolding contents
  contents_faithful ds = rising_faithful 0 (written empty ds) (written_rising empty ds)

  pub reached : (ds : List D) → Inv (contents ds) h (kind.end_of empty ds)
  reached ds = inv_run (contents ds) empty ds (inv_empty (contents ds) h) (contents_faithful ds)

  -- one run after another, with the same contents
  pub end_append : (t : Table) (ds es : List D) → kind.end_of t (ds ++ es) ≡ kind.end_of (kind.end_of t ds) es
  end_append t [] es = ap (λ z. kind.end_of z es) (sym (kind.none t))
  end_append t (d ∷ ds) es = kind.more t d (ds ++ es) ∙ end_append (kind.after t d) ds es ∙ ap (λ z. kind.end_of z es) (sym (kind.more t d ds))

  pub written_append : (t : Table) (ds es : List D) → written t (ds ++ es) ≡ written t ds ++ written (kind.end_of t ds) es
  written_append t [] es = ap (λ z. written z es) (sym (kind.none t))
  written_append t (d ∷ ds) es =
      let first = kind.writes t d in
      let rest = written (kind.after t d) ds in
      ap (λ z. first ++ z) (written_append (kind.after t d) ds es)
      ∙ sym (append_assoc first rest (written (kind.end_of (kind.after t d) ds) es)) ∙ ap (λ z. (first ++ rest) ++ written z es) (sym (kind.more t d ds))

  pub reached_both : (ds es : List D) → Inv (contents (ds ++ es)) h (kind.end_of empty ds) × Inv (contents (ds ++ es)) h (kind.end_of (kind.end_of empty ds) es)
  reached_both ds es =
      let c = contents (ds ++ es) in
      let t = kind.end_of empty ds in
      let f = subst (Faithful c) (written_append empty ds es) (contents_faithful (ds ++ es)) in
      let first = inv_run c empty ds (inv_empty c h) (all_left _ (written empty ds) (written t es) f) in
      (first, inv_run c t es first (all_right _ (written empty ds) (written t es) f))

  pub run_grows : (t : Table) (ds : List D) → Grown t.entries (kind.end_of t ds).entries
  run_grows t [] = subst (λ z. Grown t.entries z.entries) (sym (kind.none t)) (grown_same t.entries)
  run_grows t (d ∷ ds) =
      subst (λ z. Grown t.entries z.entries) (sym (kind.more t d ds))
      (grown_trans t.entries (kind.after t d).entries (kind.end_of (kind.after t d) ds).entries (kind.grows t d) (run_grows (kind.after t d) ds))

-- the deeds of writers
pub end_none : (h : ℕ) (t : Table) → end h t [] ≡ t
unfolding end
end_none h t = refl

pub end_more : (h : ℕ) (t : Table) (d : Deed) (ds : List Deed) → end h t (d ∷ ds) ≡ end h (step h t d) ds
unfolding end
end_more h t d ds = refl

abbrev pub writers_deeds : (h : ℕ) → Kind h Deed
writers_deeds h = record {
  after = step h;
  end_of = end h;
  none = end_none h;
  more = end_more h;
  writes = news;
  block = news_block;
  next = step_next h;
  grows = step_grows h;
  keeps = λ contents. inv_step contents h;
}
