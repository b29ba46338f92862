-- Laws of the files that a version has.
use Rattle.std.proofs.Common.{◌≡◌, ℕ, ◌+◌, ◌≤◌, List, [], ◌∷◌, ◌++◌, length, take, drop, sym, refl, ap, ◌∙◌, arith}
use Rattle.std.proofs.lemmas.List.Concat.{flat_map-append}
use Rattle.std.proofs.lemmas.List.{length_push, take_all, take-take, take-append-le, take-append-drop}
use Rattle.std.proofs.lemmas.Bool.Decides.{nat_tests}
use Rattle.codec.specs.Entries.{TableChange}
use Rattle.versions.specs.Alive.{minus, numbers, after, alive, version}
use Rattle.versions.specs.VersionLaws.{all_added, all_taken, tally, VersionsAreFixed, FilesStayUntilTaken}
use Rattle.versions.proofs.Tallies.{tally_none, tally_append, has_tally, has_not, tally_has, tally_has_not, minus_in, minus_out, minus_less}

-- how often a number is live after a change
pub after_tally : (n : ℕ) (live : List ℕ) (c : TableChange) → tally n (after live c) ≡ tally n (minus live c.takes) + tally n (numbers c.adds)
after_tally n live c = tally_append n (minus live c.takes) (numbers c.adds)

-- changes one after the other
pub alive_append : (cs ds : List TableChange) (live : List ℕ) → alive (cs ++ ds) live ≡ alive ds (alive cs live)
unfolding alive
alive_append [] ds live = refl
alive_append (c ∷ cs) ds live = alive_append cs ds (after live c)

pub alive_one : (cs : List TableChange) (c : TableChange) (live : List ℕ) → alive (cs ++ c ∷ []) live ≡ after (alive cs live) c
unfolding alive
alive_one cs c live = alive_append cs (c ∷ []) live

pub added_append : (n : ℕ) (cs ds : List TableChange) → tally n (all_added (cs ++ ds)) ≡ tally n (all_added cs) + tally n (all_added ds)
added_append n cs ds = ap (tally n) (flat_map-append (λ c. numbers c.adds) cs ds) ∙ tally_append n (all_added cs) (all_added ds)

pub added_one : (n : ℕ) (cs : List TableChange) (c : TableChange) → tally n (all_added (cs ++ c ∷ [])) ≡ tally n (all_added cs) + tally n (numbers c.adds)
added_one n cs c = omega (arith, added_append n cs (c ∷ []), tally_append n (numbers c.adds) [], tally_none n)

pub alive_tally : (n : ℕ) (cs : List TableChange) (live : List ℕ) → tally n (alive cs live) ≤ tally n live + tally n (all_added cs)
unfolding alive
alive_tally n [] live = omega arith
alive_tally n (c ∷ cs) live =
    omega (
      arith,
      alive_tally n cs (after live c),
      after_tally n live c,
      minus_less n live c.takes,
      tally_append n (numbers c.adds) (all_added cs),
    )

-- a number that no change takes is live as before, or more often
pub alive_stays : (n : ℕ) (cs : List TableChange) (live : List ℕ) → tally n (all_taken cs) ≡ 0 → tally n live ≤ tally n (alive cs live)
unfolding alive
alive_stays n [] live h = omega arith
alive_stays n (c ∷ cs) live h =
    let both = tally_append n c.takes (all_taken cs) in
    let ih = alive_stays n cs (after live c) (omega arith) in
    omega (arith, after_tally n live c, minus_out n live c.takes (omega arith))

-- versions of a log that grows
pub version_all : (cs : List TableChange) → version cs (length cs) ≡ alive cs []
unfolding version
version_all cs = ap (λ z. alive z []) (take_all (length cs) cs (omega arith))

pub versions_are_fixed : VersionsAreFixed
unfolding version
versions_are_fixed cs more v h = ap (λ z. alive z []) (take-append-le v cs more h)

pub version_new : (cs : List TableChange) (c : TableChange) → version (cs ++ c ∷ []) (length cs + 1) ≡ after (version cs (length cs)) c
unfolding version
version_new cs c =
    ap (λ z. alive z []) (take_all (length cs + 1) (cs ++ c ∷ []) (omega (arith, length_push cs c)))
    ∙ alive_one cs c [] ∙ ap (λ z. after z c) (sym (version_all cs))

-- from one version to a later one
pub version_on : (cs : List TableChange) (b k : ℕ) → b ≤ k → version cs k ≡ alive (drop b (take k cs)) (version cs b)
unfolding version
version_on cs b k h =
    ap (λ z. alive z []) (sym (take-append-drop b (take k cs)))
    ∙ alive_append (take b (take k cs)) (drop b (take k cs)) []
    ∙ ap (λ z. alive (drop b (take k cs)) (alive z [])) (take-take b k cs h)

pub version_newest : (cs : List TableChange) (v : ℕ) → version cs (length cs) ≡ alive (drop v cs) (version cs v)
unfolding version
version_newest cs v =
    version_all cs ∙ ap (λ z. alive z []) (sym (take-append-drop v cs)) ∙ alive_append (take v cs) (drop v cs) []

-- what is added at most once is live at most once
pub live_once : (cs : List TableChange) (v n : ℕ) → tally n (all_added cs) ≤ 1 → tally n (version cs v) ≤ 1
unfolding version
live_once cs v n h =
    omega (
      arith,
      alive_tally n (take v cs) [],
      tally_none n,
      added_append n (take v cs) (drop v cs),
      ap (λ z. tally n (all_added z)) (take-append-drop v cs),
    )

-- what a change takes and none adds is live no more
pub alive_gone : (n : ℕ) (cs : List TableChange) (live : List ℕ) → 1 ≤ tally n (all_taken cs) → tally n (all_added cs) ≡ 0 → tally n (alive cs live) ≡ 0
unfolding alive
alive_gone n [] live h a = absurd (omega (arith, tally_none n))
alive_gone n (c ∷ cs) live h a =
    let ih : 1 ≤ tally n (all_taken cs) → tally n (all_added cs) ≡ 0 → tally n (alive cs (after live c)) ≡ 0 = alive_gone n cs (after live c) in
    let out : 1 ≤ tally n c.takes → tally n (minus live c.takes) ≡ 0 = minus_in n live c.takes in
    let taken = tally_append n c.takes (all_taken cs) in
    let added = tally_append n (numbers c.adds) (all_added cs) in
    let here = after_tally n live c in
    let most = alive_tally n cs (after live c) in
    grind (arith, nat_tests)

pub files_stay_until_taken : FilesStayUntilTaken
files_stay_until_taken cs b k n h = (
  λ i t. tally_has (version cs k) n
      (omega (arith, on, has_tally (version cs b) n i, alive_stays n between (version cs b) (has_not (all_taken between) n t))),
  λ t a. tally_has_not (version cs k) n (omega (arith, on, alive_gone n between (version cs b) (has_tally (all_taken between) n t) (has_not (all_added between) n a))),
)
  where
    between : List TableChange
    between = drop b (take k cs)

    on : tally n (version cs k) ≡ tally n (alive between (version cs b))
    on = ap (tally n) (version_on cs b k h)
