-- Laws of the rows that files hold.
use Rattle.std.proofs.Common.{◌≡◌, ℕ, ◌≤◌, true, eqb, List, [], ◌∷◌, ◌++◌, sum_by, sym, refl, ◌∙◌, subst, arith}
use Rattle.std.proofs.lemmas.List.Concat.{flat_map-append}
use Rattle.std.proofs.lemmas.List.Sums.{sum_by-cons}
use Rattle.std.proofs.lemmas.Bool.{eqb-true, eq-eqb, false≢true, or_left, or_right}
use Rattle.std.proofs.lemmas.Bool.Decides.{nat_tests}
use Rattle.rows.specs.declared.row.Row.{Row}
use Rattle.rows.specs.Rows.{times, Alike}
use Rattle.rows.proofs.Rows.{sum_same, times_append}
use Rattle.codec.specs.Entries.{TableChange}
use Rattle.codec.specs.Files.{File}
use Rattle.versions.specs.Alive.{minus, numbers, after}
use Rattle.versions.specs.Contents.{there, all_there, rows_under, rows_by, rows_of}
use Rattle.versions.specs.VersionLaws.{tally, Faithful, RowsAreOfTheirFiles}
use Rattle.versions.proofs.Tallies.{tally_append, tally_head, tally_tail, tally_has, every_tally, tally_every, minus_in, minus_out, minus_less}
use Rattle.versions.proofs.AliveLaws.{after_tally}
use Rattle.versions.proofs.ListLaws.{any_append}

-- rows depend only on the files that are asked for
pub rows_agree : (f g : ℕ → List Row) (ns : List ℕ) → ((n : ℕ) → 1 ≤ tally n ns → f n ≡ g n) → rows_by f ns ≡ rows_by g ns
rows_agree f g [] h = refl
rows_agree f g (n ∷ ns) h =
    cc (h n (omega (arith, tally_head n ns)), rows_agree f g ns (λ k p. h k (omega (arith, tally_tail k n ns))))

pub rows_are_of_their_files : RowsAreOfTheirFiles
rows_are_of_their_files ns fs gs h = rows_agree (λ n. rows_under n fs) (λ n. rows_under n gs) ns (λ n k. h n (tally_has ns n k))

-- numbers that stand in two lists as often have rows that are alike
pub times_rows : (contents : ℕ → List Row) (r : Row) (ns : List ℕ) → times r (rows_by contents ns) ≡ sum_by (λ n. times r (contents n)) ns
unfolding times
times_rows contents r [] = refl
times_rows contents r (n ∷ ns) =
    omega (arith, times_append r (contents n) (rows_by contents ns), times_rows contents r ns, sum_by-cons (λ k. times r (contents k)) n ns)

pub rows_by_alike : (contents : ℕ → List Row) (xs ys : List ℕ) → ((n : ℕ) → tally n xs ≡ tally n ys) → Alike (rows_by contents xs) (rows_by contents ys)
unfolding Alike tally
rows_by_alike contents xs ys h r =
    times_rows contents r xs ∙ sum_same eqb eqb-true (λ n. eq-eqb n n refl) (λ n. times r (contents n)) xs ys h ∙ sym (times_rows contents r ys)

-- the rows of a version are those of what is left of it and those of what is taken
pub parted : (contents : ℕ → List Row) (live takes : List ℕ) → ((n : ℕ) → tally n live ≤ 1) → ((n : ℕ) → tally n takes ≤ tally n live)
    → Alike (rows_by contents live) (rows_by contents (minus live takes) ++ rows_by contents takes)
parted contents live takes once less =
    subst (Alike (rows_by contents live)) (flat_map-append contents (minus live takes) takes) (rows_by_alike contents live (minus live takes ++ takes) same)
  where
    same : (n : ℕ) → tally n live ≡ tally n (minus live takes ++ takes)
    same n =
        let both = tally_append n (minus live takes) takes in
        let taken : 1 ≤ tally n takes → tally n (minus live takes) ≡ 0 = minus_in n live takes in
        let left : tally n takes ≡ 0 → tally n (minus live takes) ≡ tally n live = minus_out n live takes in
        let one = once n in
        let some = less n in
        grind (arith, nat_tests)

-- whether a file is there
module _ (n : ℕ) (fs gs : List File) where
  pub there_left : there n fs ≡ true → there n (fs ++ gs) ≡ true
  unfolding there
  there_left h = any_append (λ f. eqb n f.number) fs gs ∙ or_left _ _ h

  pub there_right : there n gs ≡ true → there n (fs ++ gs) ≡ true
  unfolding there
  there_right h = any_append (λ f. eqb n f.number) fs gs ∙ or_right _ _ h

-- every number of a list has a file
abbrev pub Whole : List ℕ → List File → Type 0
Whole ns fs = (n : ℕ) → 1 ≤ tally n ns → there n fs ≡ true

pub whole_there : (ns : List ℕ) (fs : List File) → Whole ns fs → all_there ns fs ≡ true
unfolding all_there
whole_there ns fs h = tally_every (λ n. there n fs) ns h

pub there_whole : (ns : List ℕ) (fs : List File) → all_there ns fs ≡ true → Whole ns fs
unfolding all_there
there_whole ns fs h = every_tally (λ n. there n fs) ns h

pub whole_after : (live : List ℕ) (c : TableChange) (fs : List File) → Whole live fs → Whole (numbers c.adds) fs → Whole (after live c) fs
whole_after live c fs old new n h =
    let here : 1 ≤ tally n live → there n fs ≡ true = old n in
    let added : 1 ≤ tally n (numbers c.adds) → there n fs ≡ true = new n in
    let less = minus_less n live c.takes in
    let count = after_tally n live c in
    grind (arith, nat_tests)

-- files that hold the rows that their numbers have for good
module _ (contents : ℕ → List Row) where
  pub faithful_rows : (fs : List File) (n : ℕ) → Faithful contents fs → there n fs ≡ true → rows_under n fs ≡ contents n
  unfolding there rows_under
  faithful_rows [] n p h = absurd (false≢true h)
  faithful_rows (f ∷ fs) n p h =
      let ih : there n fs ≡ true → rows_under n fs ≡ contents n = faithful_rows fs n p.1 in
      let here = p.0 in
      grind (arith, nat_tests)

  pub whole_rows : (ns : List ℕ) (fs : List File) → Faithful contents fs → Whole ns fs → rows_of ns fs ≡ rows_by contents ns
  whole_rows ns fs p h = rows_agree (λ n. rows_under n fs) contents ns (λ n k. faithful_rows fs n p (h n k))
