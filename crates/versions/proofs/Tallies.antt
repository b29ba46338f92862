-- How often a number stands in a list: it is in it if that is once or more, and the numbers are distinct if each stands there at most once.
use Rattle.std.proofs.Common.{◌≡◌, ℕ, ◌+◌, ◌≤◌, Bool, true, false, cond, not, eqb, ◌⊎◌, List, [], ◌∷◌, ◌++◌, filter, refl, ap, ◌∙◌, inl, inr, arith}
use Rattle.std.proofs.lemmas.List.Sums.{sum_by-cons, sum_by-append}
use Rattle.std.proofs.lemmas.Bool.{eqb-true, false≢true, and_from}
use Rattle.std.proofs.lemmas.Bool.Decides.{nat_tests}
use Rattle.rows.specs.Checks.{any}
use Rattle.codec.specs.Bounds.{every}
use Rattle.versions.specs.Alive.{has, minus}
use Rattle.versions.specs.Conflicts.{shares}
use Rattle.versions.specs.VersionLaws.{tally}

pub tally_none : (n : ℕ) → tally n [] ≡ 0
unfolding tally
tally_none n = refl

pub tally_cons : (n m : ℕ) (ms : List ℕ) → tally n (m ∷ ms) ≡ cond (eqb n m) 1 0 + tally n ms
unfolding tally
tally_cons n m ms = sum_by-cons (λ x. cond (eqb n x) 1 0) m ms

pub tally_append : (n : ℕ) (xs ys : List ℕ) → tally n (xs ++ ys) ≡ tally n xs + tally n ys
unfolding tally
tally_append n xs ys = sum_by-append (λ x. cond (eqb n x) 1 0) xs ys

pub tally_head : (n : ℕ) (ns : List ℕ) → tally n (n ∷ ns) ≡ 1 + tally n ns
tally_head n ns = let e = tally_cons n n ns in grind (arith, nat_tests)

pub tally_tail : (n m : ℕ) (ms : List ℕ) → tally n ms ≤ tally n (m ∷ ms)
tally_tail n m ms = omega (arith, tally_cons n m ms)

-- the number at the head, or one of the tail
pub tally_cases : (n m : ℕ) (ms : List ℕ) → 1 ≤ tally n (m ∷ ms) → (n ≡ m) ⊎ (1 ≤ tally n ms)
tally_cases n m ms h = go (eqb n m) refl (tally_cons n m ms)
  where
    go : (b : Bool) → eqb n m ≡ b → tally n (m ∷ ms) ≡ cond b 1 0 + tally n ms → (n ≡ m) ⊎ (1 ≤ tally n ms)
    go true e k = inl (eqb-true n m e)
    go false e k = inr (omega arith)

-- whether it stands there
pub has_tally : (ns : List ℕ) (n : ℕ) → has ns n ≡ true → 1 ≤ tally n ns
unfolding has
has_tally [] n e = absurd (false≢true e)
has_tally (m ∷ ms) n e =
    let ih : has ms n ≡ true → 1 ≤ tally n ms = has_tally ms n in
    let count = tally_cons n m ms in
    grind (arith, nat_tests)

pub has_not : (ns : List ℕ) (n : ℕ) → has ns n ≡ false → tally n ns ≡ 0
unfolding has
has_not [] n e = tally_none n
has_not (m ∷ ms) n e =
    let ih : has ms n ≡ false → tally n ms ≡ 0 = has_not ms n in
    let count = tally_cons n m ms in
    grind (arith, nat_tests)

pub tally_has : (ns : List ℕ) (n : ℕ) → 1 ≤ tally n ns → has ns n ≡ true
tally_has ns n h = let p : has ns n ≡ false → tally n ns ≡ 0 = has_not ns n in grind (arith, nat_tests)

pub tally_has_not : (ns : List ℕ) (n : ℕ) → tally n ns ≡ 0 → has ns n ≡ false
tally_has_not ns n h = let p : has ns n ≡ true → 1 ≤ tally n ns = has_tally ns n in grind (arith, nat_tests)

-- tests over a list, at a number that stands there
pub any_tally : (p : ℕ → Bool) (ns : List ℕ) → any p ns ≡ false → (n : ℕ) → 1 ≤ tally n ns → p n ≡ false
any_tally p [] e n h = absurd (omega (arith, tally_none n))
any_tally p (m ∷ ms) e n h =
    let ih : any p ms ≡ false → 1 ≤ tally n ms → p n ≡ false = λ q. any_tally p ms q n in
    let cases = tally_cases n m ms h in
    grind (arith, nat_tests)

pub every_tally : (p : ℕ → Bool) (ns : List ℕ) → every p ns ≡ true → (n : ℕ) → 1 ≤ tally n ns → p n ≡ true
every_tally p [] e n h = absurd (omega (arith, tally_none n))
every_tally p (m ∷ ms) e n h =
    let ih : every p ms ≡ true → 1 ≤ tally n ms → p n ≡ true = λ q. every_tally p ms q n in
    let cases = tally_cases n m ms h in
    grind (arith, nat_tests)

pub tally_every : (p : ℕ → Bool) (ns : List ℕ) → ((n : ℕ) → 1 ≤ tally n ns → p n ≡ true) → every p ns ≡ true
tally_every p [] h = refl
tally_every p (m ∷ ms) h =
    and_from (p m) (every p ms) (h m (omega (arith, tally_head m ms))) (tally_every p ms (λ n k. h n (omega (arith, tally_tail n m ms))))

-- what a test keeps
pub tally_kept : (p : ℕ → Bool) (n : ℕ) (ns : List ℕ) → tally n (filter p ns) ≡ cond (p n) (tally n ns) 0
tally_kept p n [] = let none = tally_none n in grind (arith, nat_tests)
tally_kept p n (m ∷ ms) =
    let ih = tally_kept p n ms in
    let all = tally_cons n m ms in
    let kept = tally_cons n m (filter p ms) in
    grind (arith, nat_tests)

pub kept_less : (p : ℕ → Bool) (n : ℕ) (ns : List ℕ) → tally n (filter p ns) ≤ tally n ns
kept_less p n ns = let e = tally_kept p n ns in grind (arith, nat_tests)

-- what is taken away, and what is left
pub minus_in : (n : ℕ) (ns ts : List ℕ) → 1 ≤ tally n ts → tally n (minus ns ts) ≡ 0
unfolding minus
minus_in n ns ts h = tally_kept (λ m. not (has ts m)) n ns ∙ ap (λ b. cond (not b) (tally n ns) 0) (tally_has ts n h)

pub minus_out : (n : ℕ) (ns ts : List ℕ) → tally n ts ≡ 0 → tally n (minus ns ts) ≡ tally n ns
unfolding minus
minus_out n ns ts h = tally_kept (λ m. not (has ts m)) n ns ∙ ap (λ b. cond (not b) (tally n ns) 0) (tally_has_not ts n h)

pub minus_less : (n : ℕ) (ns ts : List ℕ) → tally n (minus ns ts) ≤ tally n ns
unfolding minus
minus_less n ns ts = kept_less (λ m. not (has ts m)) n ns

pub minus_none : (ns : List ℕ) → minus ns [] ≡ ns
unfolding minus has
minus_none [] = refl
minus_none (n ∷ ns) = ap (λ (z : List ℕ). n ∷ z) (minus_none ns)

-- no number stands in both
pub shares_not : (ms ns : List ℕ) → shares ms ns ≡ false → (n : ℕ) → 1 ≤ tally n ms → tally n ns ≡ 0
unfolding shares
shares_not ms ns e n h = has_not ns n (any_tally (has ns) ms e n h)
