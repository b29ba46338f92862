-- Lists put together.
use Rattle.std.proofs.Common.{◌≡◌, Bool, true, ◌||◌, List, [], ◌∷◌, ◌++◌, length, filter, refl, subst, arith}
use Rattle.std.specs.List.{AllByRecursion}
use Rattle.std.proofs.ByRecursion.{All-take, All-drop}
use Rattle.std.proofs.lemmas.List.{take_at, drop_at}
use Rattle.std.proofs.lemmas.Bool.Decides.{nat_tests}
use Rattle.rows.specs.Checks.{any}

pub any_append : {X : Type 0} (p : X → Bool) (xs ys : List X) → any p (xs ++ ys) ≡ (any p xs || any p ys)
any_append p [] ys = refl
any_append p (x ∷ xs) ys = let ih = any_append p xs ys in grind (arith, nat_tests)

-- a test that passes where another does, and one over what a third one keeps
module _ {X : Type 0} (p : X → Bool) where
  pub any_weaker : (q : X → Bool) (xs : List X) → ((x : X) → p x ≡ true → q x ≡ true) → any p xs ≡ true → any q xs ≡ true
  any_weaker q [] h e = e
  any_weaker q (x ∷ xs) h e =
      let ih : any p xs ≡ true → any q xs ≡ true = any_weaker q xs h in
      let here = h x in
      grind (arith, nat_tests)

  pub any_kept : (test : X → Bool) (xs : List X) → ((x : X) → p x ≡ true → test x ≡ true) → any p xs ≡ true → any p (filter test xs) ≡ true
  any_kept test [] h e = e
  any_kept test (x ∷ xs) h e =
      let ih : any p xs ≡ true → any p (filter test xs) ≡ true = any_kept test xs h in
      let here = h x in
      grind (arith, nat_tests)

-- what holds of each element of the two
module _ {X : Type 0} (P : X → Type 0) (xs ys : List X) (h : AllByRecursion P (xs ++ ys)) where
  pub all_left : AllByRecursion P xs
  all_left = subst (AllByRecursion P) (take_at xs ys (length xs) refl) (All-take P (length xs) (xs ++ ys) h)

  pub all_right : AllByRecursion P ys
  all_right = subst (AllByRecursion P) (drop_at xs ys (length xs) refl) (All-drop P (length xs) (xs ++ ys) h)
