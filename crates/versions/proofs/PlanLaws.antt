-- Laws of plans: which files they make and take, that they do their order where they were made, and that they carry over to later versions.
use Rattle.std.proofs.Common.{◌≡◌, ℕ, ◌+◌, ◌<◌, ◌≤◌, Bool, true, false, cond, ◌&&◌, ltb, leb, List, [], ◌∷◌, ◌++◌, map, length, take, drop, filter, sym, refl, ap, ◌∙◌, subst, append-nil, add-zero, arith}
use Rattle.std.specs.List.{flat_map, AllByRecursion}
use Rattle.std.proofs.ByRecursion.{All-append, All-take, All-drop}
use Rattle.std.proofs.lemmas.List.Concat.{flat_map-append}
use Rattle.std.proofs.lemmas.Bool.Decides.{nat_tests}
use Rattle.rows.specs.declared.row.Row.{Row}
use Rattle.rows.specs.declared.span.Span.{Span}
use Rattle.rows.specs.Orders.{Order, insert, erase, raise, pack, done_to, touched}
use Rattle.rows.specs.Rows.{outside, raised, many_within}
use Rattle.rows.proofs.Rows.{outside_append, raised_append}
use Rattle.codec.specs.Entries.{TableChange}
use Rattle.codec.specs.Files.{File}
use Rattle.codec.specs.Keys.{keys_of}
use Rattle.versions.specs.Alive.{numbers, version}
use Rattle.versions.specs.Contents.{rows_under, rows_by, rows_of}
use Rattle.versions.specs.Plans.{Plan, file_if, holds_key, with_file, anew, small_files, packed, plan, action_of, added, planned}
use Rattle.versions.specs.VersionLaws.{tally, Faithful, Keyed, PlanCarriesOver}
use Rattle.versions.proofs.ListLaws.{all_left, all_right}
use Rattle.versions.proofs.Tallies.{tally_none, tally_cons, tally_head, tally_tail, tally_kept, kept_less}
use Rattle.versions.proofs.AliveLaws.{version_on, live_once}
use Rattle.versions.proofs.ContentLaws.{rows_agree, Whole, there_whole, faithful_rows, whole_rows}
use Rattle.versions.proofs.Fits.{many_changed, Spared, Fits, touched_spared, put_alike, put_touched, fits_over}

-- the rows of some files, one file after the other
abbrev pub all_rows : List File → List Row
all_rows fs = flat_map (λ f. f.rows) fs

-- files that are listed as added have the rows and the keys that their numbers have for good
module _ (contents : ℕ → List Row) where
  pub listed_rows : (fs : List File) → Faithful contents fs → rows_by contents (numbers (map added fs)) ≡ all_rows fs
  listed_rows [] p = refl
  listed_rows (f ∷ fs) p = cc (p.0, listed_rows fs p.1)

  pub listed_keys : (fs : List File) → Faithful contents fs → Keyed contents (map added fs)
  listed_keys [] p = tt
  listed_keys (f ∷ fs) p = (ap keys_of p.0, listed_keys fs p.1)

-- files whose numbers follow one another from the first on
abbrev pub Block : ℕ → List File → Type 0
Block n [] = Unit {0}
Block n (f ∷ fs) = (f.number ≡ n) × Block (n + 1) fs

pub block_append : (n : ℕ) (fs gs : List File) → Block n fs → Block (n + length fs) gs → Block n (fs ++ gs)
block_append n [] gs p q = subst (λ k. Block k gs) (add-zero n) q
block_append n (f ∷ fs) gs p q =
    let e : n + length (f ∷ fs) ≡ n + 1 + length fs = omega arith in
    (p.0, block_append (n + 1) fs gs p.1 (subst (λ k. Block k gs) e q))

-- each number of a block stands in it once, and none outside
pub block_tally : (n : ℕ) (fs : List File) (k : ℕ) → Block n fs → tally k (numbers (map added fs)) ≡ cond (leb n k && ltb k (n + length fs)) 1 0
block_tally n [] k b = let none = tally_none k in grind (arith, nat_tests)
block_tally n (f ∷ fs) k b =
    let ih = block_tally (n + 1) fs k b.1 in
    let here = b.0 in
    let count = tally_cons k f.number (numbers (map added fs)) in
    grind (arith, nat_tests)

module _ (n : ℕ) (fs : List File) (k : ℕ) (b : Block n fs) where
  pub block_low : k < n → tally k (numbers (map added fs)) ≡ 0
  block_low h = let e = block_tally n fs k b in grind (arith, nat_tests)

  pub block_high : n + length fs ≤ k → tally k (numbers (map added fs)) ≡ 0
  block_high h = let e = block_tally n fs k b in grind (arith, nat_tests)

  pub block_once : tally k (numbers (map added fs)) ≤ 1
  block_once = let e = block_tally n fs k b in grind (arith, nat_tests)

-- files whose writer began at a version
abbrev pub Begun : ℕ → List File → Type 0
Begun v fs = AllByRecursion (λ f. f.began ≡ v) fs

-- what is common to the plans: the numbers of the new files, where their writer began, and that all that is taken is there
pub record Laid (n v : ℕ) (live : List ℕ) (p : Plan) : Type 0 where
  pub block : Block n p.new
  pub begun : Begun v p.new
  pub less : (k : ℕ) → tally k p.takes ≤ tally k live

pub file_if_rows : (n v : ℕ) (rs : List Row) → all_rows (file_if n v rs) ≡ rs
file_if_rows n v [] = refl
file_if_rows n v (r ∷ rs) = append-nil (r ∷ rs)

pub file_if_block : (n v : ℕ) (rs : List Row) → Block n (file_if n v rs)
file_if_block n v [] = tt
file_if_block n v (r ∷ rs) = (refl, tt)

pub file_if_begun : (n v : ℕ) (rs : List Row) → Begun v (file_if n v rs)
file_if_begun n v [] = tt
file_if_begun n v (r ∷ rs) = (refl, tt)

-- files written anew
module _ (change : List Row → List Row) (s : Span) (v : ℕ) (fs : List File) where
  -- those are taken that have a row in the span
  pub anew_takes : (n : ℕ) (ms : List ℕ) → (anew change s n v ms fs).takes ≡ filter (λ m. holds_key s (rows_under m fs)) ms
  unfolding anew
  anew_takes n [] = refl
  anew_takes n (m ∷ ms) =
      let taken = anew_takes (n + length (file_if n v (change (rows_under m fs)))) ms in
      let left = anew_takes n ms in
      grind (arith, nat_tests)

  pub anew_less : (n : ℕ) (ms : List ℕ) (k : ℕ) → tally k (anew change s n v ms fs).takes ≤ tally k ms
  anew_less n ms k = omega (arith, ap (tally k) (anew_takes n ms), kept_less (λ m. holds_key s (rows_under m fs)) k ms)

  -- a file that is not taken has no row in the span
  pub anew_left : (n : ℕ) (ms : List ℕ) (k : ℕ) → 1 ≤ tally k ms → tally k (anew change s n v ms fs).takes ≡ 0 → many_within s (rows_under k fs) ≡ 0
  anew_left n ms k h t =
      let taken = ap (tally k) (anew_takes n ms) in
      let kept = tally_kept (λ m. holds_key s (rows_under m fs)) k ms in
      grind (arith, nat_tests)

  pub anew_laid : (n : ℕ) (ms : List ℕ) → Block n (anew change s n v ms fs).new × Begun v (anew change s n v ms fs).new
  unfolding anew
  anew_laid n [] = (tt, tt)
  anew_laid n (m ∷ ms) = go (holds_key s (rows_under m fs)) (λ k. anew_laid k ms)
    where
      rs : List Row
      rs = change (rows_under m fs)

      new : List File
      new = file_if n v rs

      go : (b : Bool) → ((k : ℕ) → Block k (anew change s k v ms fs).new × Begun v (anew change s k v ms fs).new)
          → Block n (cond b (with_file m new (anew change s (n + length new) v ms fs)) (anew change s n v ms fs)).new
          × Begun v (cond b (with_file m new (anew change s (n + length new) v ms fs)) (anew change s n v ms fs)).new
      go true ih =
          let p = ih (n + length new) in
          (block_append n new _ (file_if_block n v rs) p.0, All-append (λ f. f.began ≡ v) new _ (file_if_begun n v rs) p.1)
      go false ih = ih n

  -- the new files have the rows that the change makes of those that are taken
  module _ (none : change [] ≡ []) (over : (xs ys : List Row) → change (xs ++ ys) ≡ change xs ++ change ys) where
    pub anew_rows : (n : ℕ) (ms : List ℕ) → all_rows (anew change s n v ms fs).new ≡ change (rows_of (anew change s n v ms fs).takes fs)
    unfolding anew
    anew_rows n [] = sym none
    anew_rows n (m ∷ ms) =
        let new = file_if n v (change (rows_under m fs)) in
        let p = anew change s (n + length new) v ms fs in
        let all = flat_map-append (λ f. f.rows) new p.new in
        let first = file_if_rows n v (change (rows_under m fs)) in
        let rest = anew_rows (n + length new) ms in
        let both = over (rows_under m fs) (rows_of p.takes fs) in
        let left = anew_rows n ms in
        grind (arith, nat_tests)

-- files packed into one
pub small_less : (most : ℕ) (ns : List ℕ) (fs : List File) (k : ℕ) → tally k (small_files most ns fs) ≤ tally k ns
unfolding small_files
small_less most ns fs k = kept_less (λ n. leb (length (rows_under n fs)) most) k ns

pub packed_laid : (n v : ℕ) (ms : List ℕ) (fs : List File) → Laid n v ms (packed ms n v fs)
unfolding packed
packed_laid n v [] fs = record { block = tt; begun = tt; less = λ k. omega arith }
packed_laid n v (a ∷ []) fs = record { block = tt; begun = tt; less = λ k. omega (arith, tally_none k) }
packed_laid n v (a ∷ b ∷ ms) fs = record { block = file_if_block n v _; begun = file_if_begun n v _; less = λ k. omega arith }

pub packed_rows : (n v : ℕ) (ms : List ℕ) (fs : List File) → all_rows (packed ms n v fs).new ≡ rows_of (packed ms n v fs).takes fs
unfolding packed
packed_rows n v [] fs = refl
packed_rows n v (a ∷ []) fs = refl
packed_rows n v (a ∷ b ∷ ms) fs = file_if_rows n v _

-- every plan
pub plan_laid : (o : Order) (n v : ℕ) (live : List ℕ) (fs : List File) → Laid n v live (plan o n v live fs)
unfolding plan
plan_laid (insert rs) n v live fs = record { block = file_if_block n v rs; begun = file_if_begun n v rs; less = λ k. omega (arith, tally_none k) }
plan_laid (erase s) n v live fs =
    let p = anew_laid (outside s) s v fs n live in
    record { block = p.0; begun = p.1; less = anew_less (outside s) s v fs n live }
plan_laid (raise s m) n v live fs =
    let p = anew_laid (raised s m) s v fs n live in
    record { block = p.0; begun = p.1; less = anew_less (raised s m) s v fs n live }
plan_laid (pack most) n v live fs =
    let p = packed_laid n v (small_files most live fs) fs in
    record { block = p.block; begun = p.begun; less = λ k. omega (arith, p.less k, small_less most live fs k) }

-- the new files have the rows that the order makes of those that are taken
pub plan_rows : (o : Order) (n v : ℕ) (live : List ℕ) (fs : List File) → all_rows (plan o n v live fs).new ≡ done_to o (rows_of (plan o n v live fs).takes fs)
unfolding plan done_to outside raised
plan_rows (insert rs) n v live fs = file_if_rows n v rs
plan_rows (erase s) n v live fs = anew_rows (outside s) s v fs refl (outside_append s) n live
plan_rows (raise s m) n v live fs = anew_rows (raised s m) s v fs refl (raised_append s m) n live
plan_rows (pack most) n v live fs = packed_rows n v (small_files most live fs) fs

-- a file that is not taken has no row that the order changes
pub plan_left : (o : Order) (n v : ℕ) (live : List ℕ) (fs : List File) (k : ℕ) → 1 ≤ tally k live → tally k (plan o n v live fs).takes ≡ 0 → many_changed o (rows_under k fs) ≡ 0
unfolding plan
plan_left (insert rs) n v live fs k h t = refl
plan_left (erase s) n v live fs k h t = anew_left (outside s) s v fs n live k h t
plan_left (raise s m) n v live fs k h t = anew_left (raised s m) s v fs n live k h t
plan_left (pack most) n v live fs k h t = refl

-- a plan fits at the version that it was made at
pub plan_fits : (contents : ℕ → List Row) (o : Order) (n v : ℕ) (live : List ℕ) (fs : List File) → Faithful contents fs → Whole live fs → ((k : ℕ) → tally k live ≤ 1)
    → Faithful contents (plan o n v live fs).new → Fits contents live o (planned o n v live fs)
plan_fits contents o n v live fs faithful whole once new = record {
  named = refl;
  inside = less;
  made = listed_rows contents (plan o n v live fs).new new ∙ plan_rows o n v live fs
      ∙ ap (done_to o) (whole_rows contents takes fs faithful (λ k h. whole k (omega (arith, less k))));
  counted = ap (touched o) (whole_rows contents live fs faithful whole) ∙ sym (touched_spared contents live takes once less o spared);
  spared = spared;
}
  where
    takes : List ℕ
    takes = (plan o n v live fs).takes

    less : (k : ℕ) → tally k takes ≤ tally k live
    less = (plan_laid o n v live fs).less

    spared : Spared contents o live takes
    spared k h t = ap (many_changed o) (sym (faithful_rows contents fs k faithful (whole k h))) ∙ plan_left o n v live fs k h t

pub plan_carries_over : PlanCarriesOver
plan_carries_over contents o cs b k n fs h e once keyed faithful there =
    (put_alike contents live o mine distinct fits, put_touched contents live o mine distinct fits)
  where
    mine : TableChange
    mine = planned o n b (version cs b) fs

    live : List ℕ
    live = version cs k

    distinct : (m : ℕ) → tally m live ≤ 1
    distinct m = live_once cs k m (once m)

    new : List File
    new = (plan o n b (version cs b) fs).new

    begun : Fits contents (version cs b) o mine
    begun = plan_fits contents o n b (version cs b) fs (all_left _ fs new faithful) (there_whole (version cs b) fs there) (λ m. live_once cs b m (once m)) (all_right _ fs new faithful)

    fits : Fits contents live o mine
    fits = subst (λ z. Fits contents z o mine) (sym (version_on cs b k h))
        (fits_over contents (version cs b) o mine (drop b (take k cs)) (All-drop _ b (take k cs) (All-take _ k cs keyed)) e begun)

-- a plan depends only on the rows of the version's files
abbrev pub Agree : List ℕ → List File → List File → Type 0
Agree ns fs gs = (k : ℕ) → 1 ≤ tally k ns → rows_under k fs ≡ rows_under k gs

pub agree_head : (n : ℕ) (ns : List ℕ) (fs gs : List File) → Agree (n ∷ ns) fs gs → rows_under n fs ≡ rows_under n gs
agree_head n ns fs gs h = h n (omega (arith, tally_head n ns))

pub agree_tail : (n : ℕ) (ns : List ℕ) (fs gs : List File) → Agree (n ∷ ns) fs gs → Agree ns fs gs
agree_tail n ns fs gs h k p = h k (omega (arith, tally_tail k n ns))

pub anew_agree : (change : List Row → List Row) (s : Span) (n v : ℕ) (ms : List ℕ) (fs gs : List File) → Agree ms fs gs → anew change s n v ms fs ≡ anew change s n v ms gs
unfolding anew
anew_agree change s n v [] fs gs h = refl
anew_agree change s n v (m ∷ ms) fs gs h =
    let here = agree_head m ms fs gs h in
    let taken = anew_agree change s (n + length (file_if n v (change (rows_under m fs)))) v ms fs gs (agree_tail m ms fs gs h) in
    let left = anew_agree change s n v ms fs gs (agree_tail m ms fs gs h) in
    cc

pub small_agree : (most : ℕ) (ns : List ℕ) (fs gs : List File) → Agree ns fs gs → small_files most ns fs ≡ small_files most ns gs
unfolding small_files
small_agree most [] fs gs h = refl
small_agree most (n ∷ ns) fs gs h = cc (agree_head n ns fs gs h, small_agree most ns fs gs (agree_tail n ns fs gs h))

pub packed_agree : (ms : List ℕ) (n v : ℕ) (fs gs : List File) → Agree ms fs gs → packed ms n v fs ≡ packed ms n v gs
unfolding packed
packed_agree [] n v fs gs h = refl
packed_agree (a ∷ []) n v fs gs h = refl
packed_agree (a ∷ b ∷ ms) n v fs gs h = ap (λ z. record { new = file_if n v z; takes = a ∷ b ∷ ms }) (rows_agree _ _ (a ∷ b ∷ ms) h)

pub plan_agree : (o : Order) (n v : ℕ) (live : List ℕ) (fs gs : List File) → Agree live fs gs → plan o n v live fs ≡ plan o n v live gs
unfolding plan
plan_agree (insert rs) n v live fs gs h = refl
plan_agree (erase s) n v live fs gs h = anew_agree (outside s) s n v live fs gs h
plan_agree (raise s m) n v live fs gs h = anew_agree (raised s m) s n v live fs gs h
plan_agree (pack most) n v live fs gs h =
    packed_agree (small_files most live fs) n v fs gs (λ k p. h k (omega (arith, small_less most live fs k)))
    ∙ ap (λ z. packed z n v gs) (small_agree most live fs gs h)

pub planned_agree : (o : Order) (n v : ℕ) (live : List ℕ) (fs gs : List File) → Agree live fs gs → planned o n v live fs ≡ planned o n v live gs
planned_agree o n v live fs gs h =
    let p = plan_agree o n v live fs gs h in
    let rows = rows_agree (λ k. rows_under k fs) (λ k. rows_under k gs) live h in
    λ i. record { action = action_of o; touched = touched o (rows i); adds = map added (p i).new; takes = (p i).takes }
