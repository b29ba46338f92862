-- When a change does its order at the files of a version, and that it still does after changes that are not in conflict with it.
use Rattle.std.proofs.Common.{◌≡◌, ℕ, ◌+◌, ◌≤◌, false, List, [], ◌∷◌, ◌++◌, sym, refl, ap, ◌∙◌, subst, append_assoc, arith}
use Rattle.std.proofs.lemmas.List.Concat.{flat_map-append}
use Rattle.std.proofs.lemmas.Bool.{or_parts}
use Rattle.std.proofs.lemmas.Bool.Decides.{nat_tests}
use Rattle.rows.specs.declared.row.Row.{Row}
use Rattle.rows.specs.declared.span.Span.{Span}
use Rattle.rows.specs.Orders.{Order, insert, erase, raise, pack, done_to, touched}
use Rattle.rows.specs.Rows.{many_within, Alike}
use Rattle.rows.specs.Spans.{overlap}
use Rattle.rows.proofs.Orders.{done_alike, touched_alike}
use Rattle.rows.proofs.Rows.{alike_sym, outside_append, raised_append, many_append, outside_none, raised_none}
use Rattle.codec.specs.declared.entry.Added.{Added}
use Rattle.codec.specs.Entries.{TableChange}
use Rattle.versions.specs.Alive.{minus, numbers, after, alive}
use Rattle.versions.specs.Conflicts.{shares, reaches, misses, conflict, any_conflict}
use Rattle.versions.specs.Contents.{rows_by}
use Rattle.versions.specs.Plans.{action_of}
use Rattle.versions.specs.VersionLaws.{tally, Keyed, AllKeyed}
use Rattle.versions.proofs.Tallies.{tally_none, tally_head, tally_tail, tally_cases, minus_in, minus_out, minus_less, shares_not}
use Rattle.versions.proofs.AliveLaws.{after_tally}
use Rattle.versions.proofs.ContentLaws.{parted}
use Rattle.versions.proofs.RangeLaws.{key_ranges_tell}

-- how many of some rows an order changes
abbrev pub many_changed : Order → List Row → ℕ
many_changed (insert new) rs = 0
many_changed (erase s) rs = many_within s rs
many_changed (raise s n) rs = many_within s rs
many_changed (pack m) rs = 0

pub changed_none : (o : Order) → many_changed o [] ≡ 0
unfolding many_within
changed_none (insert new) = refl
changed_none (erase s) = refl
changed_none (raise s n) = refl
changed_none (pack m) = refl

pub changed_append : (o : Order) (xs ys : List Row) → many_changed o (xs ++ ys) ≡ many_changed o xs + many_changed o ys
changed_append (insert new) xs ys = refl
changed_append (erase s) xs ys = many_append s xs ys
changed_append (raise s n) xs ys = many_append s xs ys
changed_append (pack m) xs ys = refl

-- rows that an order does not change stay, and are not counted
pub done_beside : (o : Order) (xs ys : List Row) → many_changed o xs ≡ 0 → done_to o (xs ++ ys) ≡ xs ++ done_to o ys
unfolding done_to
done_beside (insert new) xs ys h = append_assoc xs ys new
done_beside (erase s) xs ys h = outside_append s xs ys ∙ cc (outside_none s xs h)
done_beside (raise s n) xs ys h = raised_append s n xs ys ∙ cc (raised_none s n xs h)
done_beside (pack m) xs ys h = refl

pub touched_beside : (o : Order) (xs ys : List Row) → many_changed o xs ≡ 0 → touched o (xs ++ ys) ≡ touched o ys
unfolding touched
touched_beside (insert new) xs ys h = refl
touched_beside (erase s) xs ys h = omega (arith, many_append s xs ys)
touched_beside (raise s n) xs ys h = omega (arith, many_append s xs ys)
touched_beside (pack m) xs ys h = refl

-- no file of the version but those that are taken has a row that the order changes
abbrev pub Spared : (ℕ → List Row) → Order → (live takes : List ℕ) → Type 0
Spared contents o live takes = (n : ℕ) → 1 ≤ tally n live → tally n takes ≡ 0 → many_changed o (contents n) ≡ 0

-- a change does its order at these files: what it takes is among them, what it adds is what the order makes of that,
-- no other file has a row that the order changes, and the count is that of the rows that are taken
pub record Fits (contents : ℕ → List Row) (live : List ℕ) (o : Order) (c : TableChange) : Type 0 where
  pub named : c.action ≡ action_of o
  pub inside : (n : ℕ) → tally n c.takes ≤ tally n live
  pub made : rows_by contents (numbers c.adds) ≡ done_to o (rows_by contents c.takes)
  pub counted : c.touched ≡ touched o (rows_by contents c.takes)
  pub spared : Spared contents o live c.takes

-- what is left of a version has no row that the order changes
pub unchanged : (contents : ℕ → List Row) (o : Order) (ns : List ℕ) → ((n : ℕ) → 1 ≤ tally n ns → many_changed o (contents n) ≡ 0) → many_changed o (rows_by contents ns) ≡ 0
unchanged contents o [] h = changed_none o
unchanged contents o (n ∷ ns) h =
    omega (
      arith,
      changed_append o (contents n) (rows_by contents ns),
      h n (omega (arith, tally_head n ns)),
      unchanged contents o ns (λ k p. h k (omega (arith, tally_tail k n ns))),
    )

module _ (contents : ℕ → List Row) (live takes : List ℕ) (once : (n : ℕ) → tally n live ≤ 1) (inside : (n : ℕ) → tally n takes ≤ tally n live) (o : Order)
    (spared : Spared contents o live takes) where
  left_unchanged : many_changed o (rows_by contents (minus live takes)) ≡ 0
  left_unchanged = unchanged contents o (minus live takes) left
    where
      left : (n : ℕ) → 1 ≤ tally n (minus live takes) → many_changed o (contents n) ≡ 0
      left n h =
          let other : 1 ≤ tally n live → tally n takes ≡ 0 → many_changed o (contents n) ≡ 0 = spared n in
          let taken : 1 ≤ tally n takes → tally n (minus live takes) ≡ 0 = minus_in n live takes in
          let less = minus_less n live takes in
          grind (arith, nat_tests)

  -- an order does to a version what it does to the files that are taken, and counts what it counts there
  pub done_spared : Alike (rows_by contents (minus live takes) ++ done_to o (rows_by contents takes)) (done_to o (rows_by contents live))
  done_spared =
      subst (λ z. Alike z (done_to o (rows_by contents live))) (done_beside o (rows_by contents (minus live takes)) (rows_by contents takes) left_unchanged)
      (done_alike o _ _ (alike_sym _ _ (parted contents live takes once inside)))

  pub touched_spared : touched o (rows_by contents takes) ≡ touched o (rows_by contents live)
  touched_spared =
      sym (touched_beside o (rows_by contents (minus live takes)) (rows_by contents takes) left_unchanged)
      ∙ touched_alike o _ _ (alike_sym _ _ (parted contents live takes once inside))

-- put behind the version, a change that fits does its order, and its count is right
module _ (contents : ℕ → List Row) (live : List ℕ) (o : Order) (c : TableChange) (once : (n : ℕ) → tally n live ≤ 1) (f : Fits contents live o c) where
  pub put_alike : Alike (rows_by contents (after live c)) (done_to o (rows_by contents live))
  put_alike =
      subst (λ z. Alike z (done_to o (rows_by contents live)))
      (sym (flat_map-append contents (minus live c.takes) (numbers c.adds) ∙ ap (λ z. rows_by contents (minus live c.takes) ++ z) f.made))
      (done_spared contents live c.takes once f.inside o f.spared)

  pub put_touched : c.touched ≡ touched o (rows_by contents live)
  put_touched = f.counted ∙ touched_spared contents live c.takes once f.inside o f.spared

-- files that were added with keys apart from the span have no row that the order changes
added_apart : (contents : ℕ → List Row) (s : Span) (adds : List Added) → Keyed contents adds → reaches s adds ≡ false
    → (n : ℕ) → 1 ≤ tally n (numbers adds) → many_within s (contents n) ≡ 0
unfolding reaches
added_apart contents s [] k e n h = absurd (omega (arith, tally_none n))
added_apart contents s (a ∷ adds) k e n h =
    let ih : reaches s adds ≡ false → 1 ≤ tally n (numbers adds) → many_within s (contents n) ≡ 0 = λ q. added_apart contents s adds k.1 q n in
    let here : overlap s a.keys ≡ false → many_within s (contents a.number) ≡ 0 = λ q. (key_ranges_tell s (contents a.number)).0 (ap (overlap s) (sym k.0) ∙ q) in
    let cases = tally_cases n a.number (numbers adds) h in
    grind (arith, nat_tests)

pub added_spared : (contents : ℕ → List Row) (o : Order) (adds : List Added) → Keyed contents adds → misses (action_of o) adds ≡ false
    → (n : ℕ) → 1 ≤ tally n (numbers adds) → many_changed o (contents n) ≡ 0
added_spared contents (insert new) adds k e n h = refl
added_spared contents (erase s) adds k e n h = added_apart contents s adds k e n h
added_spared contents (raise s m) adds k e n h = added_apart contents s adds k e n h
added_spared contents (pack m) adds k e n h = refl

-- a change that is not in conflict leaves another one fitting
module _ (contents : ℕ → List Row) (live : List ℕ) (o : Order) (mine c : TableChange) (keyed : Keyed contents c.adds) (f : Fits contents live o mine) where
  still_inside : shares mine.takes c.takes ≡ false → (n : ℕ) → tally n mine.takes ≤ tally n (after live c)
  still_inside e n =
      let apart : 1 ≤ tally n mine.takes → tally n c.takes ≡ 0 = shares_not mine.takes c.takes e n in
      let left : tally n c.takes ≡ 0 → tally n (minus live c.takes) ≡ tally n live = minus_out n live c.takes in
      let before = f.inside n in
      let count = after_tally n live c in
      grind (arith, nat_tests)

  still_spared : misses mine.action c.adds ≡ false → Spared contents o (after live c) mine.takes
  still_spared e n h t =
      let new : 1 ≤ tally n (numbers c.adds) → many_changed o (contents n) ≡ 0 = added_spared contents o c.adds keyed (ap (λ a. misses a c.adds) (sym f.named) ∙ e) n in
      let old : 1 ≤ tally n live → many_changed o (contents n) ≡ 0 = λ q. f.spared n q t in
      let less = minus_less n live c.takes in
      let count = after_tally n live c in
      grind (arith, nat_tests)

  pub fits_step : conflict mine c ≡ false → Fits contents (after live c) o mine
  unfolding conflict
  fits_step e =
      let p = or_parts (shares mine.takes c.takes) (misses mine.action c.adds) e in
      record { named = f.named; inside = still_inside p.0; made = f.made; counted = f.counted; spared = still_spared p.1 }

pub fits_over : (contents : ℕ → List Row) (live : List ℕ) (o : Order) (mine : TableChange) (cs : List TableChange) → AllKeyed contents cs → any_conflict mine cs ≡ false
    → Fits contents live o mine → Fits contents (alive cs live) o mine
unfolding any_conflict alive
fits_over contents live o mine [] k e f = f
fits_over contents live o mine (c ∷ cs) k e f =
    let p = or_parts (conflict mine c) (any_conflict mine cs) e in
    fits_over contents (after live c) o mine cs k.1 p.1 (fits_step contents live o mine c k.0 f p.0)
