-- Numbers as a set, and the files after a change, step by step.
use Rattle.std.proofs.Common.{◌≡◌, ℕ, not, ◌||◌, nat_eq, List, [], ◌∷◌, ◌++◌, filter, sym, refl, ap, ◌∙◌, arith}
use Rattle.std.specs.BTreeSet.{IsOrdered, IsEmpty, InsertsAll, IsFromIterResult, contains as in_set}
use Rattle.std.specs.Set.{is_member}
use Rattle.std.specs.Cmp.{unsigned_tied}
use Rattle.std.proofs.lemmas.List.Elements.{filter_agree}
use Rattle.std.proofs.lemmas.Bool.Decides.{nat_tests}
use Rattle.std.specs.BTreeSet.{BTreeSet}
use Rattle.versions.specs.Alive.{has, minus}
use Rattle.versions.proofs.ListLaws.{any_append}
use Rattle.std.specs.Ordering.{nat_cmp, eq_by_cmp}

-- a set of numbers has those that stand in the list
has_member : (n : ℕ) (ns : List ℕ) → is_member (eq_by_cmp nat_cmp) ns n ≡ has ns n
unfolding has
has_member n [] = refl
has_member n (m ∷ ms) = let here = unsigned_tied n m in let ih = has_member n ms in cc

-- a set that numbers were put into
pub set_filled : (e s : BTreeSet ℕ) (ns : List ℕ) → IsEmpty e → InsertsAll nat_cmp e ns s → IsOrdered nat_cmp s × ((n : ℕ) → in_set nat_cmp s n ≡ has ns n)
set_filled e s ns none all = (all.1, λ n. all.0 n ∙ ap (λ ks. is_member (eq_by_cmp nat_cmp) ks n || is_member (eq_by_cmp nat_cmp) ns n) none ∙ has_member n ns)

-- a set, and what is still to be put into it
pub set_start : (s : BTreeSet ℕ) (ns : List ℕ) → IsEmpty s → (n : ℕ) → (in_set nat_cmp s n || has ns n) ≡ has ns n
set_start s ns none n = ap (λ ks. is_member (eq_by_cmp nat_cmp) ks n || has ns n) none

pub set_grown : (s t : BTreeSet ℕ) (part rest behind : List ℕ) → part ++ behind ≡ rest → IsFromIterResult nat_cmp (s.keys ++ part) t → (n : ℕ) → (in_set nat_cmp t n || has behind n) ≡ (in_set nat_cmp s n || has rest n)
unfolding has
set_grown s t part rest behind whole made n =
    let all : in_set nat_cmp t n ≡ (has s.keys n || has part n) = made.0 n ∙ has_member n (s.keys ++ part) ∙ any_append (nat_eq n) s.keys part in
    let old : in_set nat_cmp s n ≡ has s.keys n = has_member n s.keys in
    let left : has rest n ≡ (has part n || has behind n) = ap (λ l. has l n) (sym whole) ∙ any_append (nat_eq n) part behind in
    grind (arith, nat_tests)

pub set_done : (s : BTreeSet ℕ) (ns : List ℕ) → ((n : ℕ) → (in_set nat_cmp s n || has [] n) ≡ has ns n) → (n : ℕ) → in_set nat_cmp s n ≡ has ns n
unfolding has
set_done s ns h n = let all = h n in grind (arith, nat_tests)

-- what is left, by the set of what is taken
pub minus_by_set : (s : BTreeSet ℕ) (live takes : List ℕ) → ((n : ℕ) → in_set nat_cmp s n ≡ has takes n) → filter (λ n. not (in_set nat_cmp s n)) live ≡ minus live takes
unfolding minus
minus_by_set s live takes h = filter_agree (λ n. not (in_set nat_cmp s n)) (λ n. not (has takes n)) (λ n. ap not (h n)) live
