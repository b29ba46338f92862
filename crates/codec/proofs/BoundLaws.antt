-- A test over all of a list, and what is there or not.
use Rattle.std.proofs.Common.{◌≡◌, ℕ, zero, suc, ◌+◌, ◌<◌, ◌≤◌, Bool, true, false, cond, ◌&&◌, List, [], ◌∷◌, ◌++◌, length, get_or, drop, is_some, Some, None, Option, refl, ap, ◌∙◌, arith}
use Rattle.std.proofs.lemmas.List.{at_drop_more, at_drop_all}
use Rattle.std.proofs.lemmas.Bool.{and_parts, and_from}
use Rattle.std.specs.Option.{option_map}
use Rattle.std.specs.Bool.{then_some}
use Rattle.rows.specs.Checks.{some_else}
use Rattle.codec.specs.Bounds.{every}

pub every_from_getD : {A : Type 0} (p : A → Bool) (xs : List A) (d : A) → ((i : ℕ) → i < length xs → p (get_or xs i d) ≡ true) → every p xs ≡ true
every_from_getD p [] d h = refl
every_from_getD p (x ∷ xs) d h = and_from (p x) (every p xs) (h 0 (omega arith)) (every_from_getD p xs d (λ i l. h (suc i) (omega arith)))

pub every_at : {A : Type 0} (p : A → Bool) (xs : List A) (i : ℕ) (d : A) → every p xs ≡ true → i < length xs → p (get_or xs i d) ≡ true
every_at p [] i d e h = absurd (omega arith)
every_at p (x ∷ xs) zero d e h = (and_parts (p x) (every p xs) e).0
every_at p (x ∷ xs) (suc i) d e h = every_at p xs i d (and_parts (p x) (every p xs) e).1 (omega arith)

pub every_append : {A : Type 0} (p : A → Bool) (xs ys : List A) → every p xs ≡ true → every p ys ≡ true → every p (xs ++ ys) ≡ true
every_append p [] ys a b = b
every_append p (x ∷ xs) ys a b = let q = and_parts (p x) (every p xs) a in and_from (p x) (every p (xs ++ ys)) q.0 (every_append p xs ys q.1 b)

-- a loop over a list, one element on and at the end
module _ {A : Type 0} (p : A → Bool) (xs : List A) (i : ℕ) where
  pub every_more : (d : A) → i < length xs → p (get_or xs i d) ≡ true → every p (drop i xs) ≡ every p (drop (i + 1) xs)
  every_more d h e = at_drop_more (every p) xs i d h ∙ ap (λ b. b && every p (drop (i + 1) xs)) e

  pub every_stop : (d : A) → i < length xs → p (get_or xs i d) ≡ false → every p (drop i xs) ≡ false
  every_stop d h e = at_drop_more (every p) xs i d h ∙ ap (λ b. b && every p (drop (i + 1) xs)) e

  pub every_end : length xs ≤ i → every p (drop i xs) ≡ true
  every_end h = at_drop_all (every p) xs i h

-- what a test hands on
pub then_some_of : {A B : Type 0} (f : A → B) (b : Bool) (x : A) → option_map f (then_some b x) ≡ cond b (Some (f x)) None
then_some_of f true x = refl
then_some_of f false x = refl

pub then_some_is : {A : Type 0} (b : Bool) (x : A) → then_some b x ≡ cond b (Some x) None
then_some_is true x = refl
then_some_is false x = refl

pub is_some_cond : {A : Type 0} (b : Bool) (x : A) → is_some (cond b (Some x) None) ≡ b
is_some_cond true x = refl
is_some_cond false x = refl

-- what was made of something that was there
pub some_of_cond : {A : Type 0} (b : Bool) (o : Option A) (x : A) → cond b o None ≡ Some x → (b ≡ true) × (o ≡ Some x)
some_of_cond true o x e = (refl, e)
some_of_cond false o x e = absurd (let z : ◌≡◌ {A = ℕ} 0 1 = cc in omega arith)

pub some_of_mapped : {A B : Type 0} (f : A → B) (o : Option A) (y : B) → option_map f o ≡ Some y → (x : A) × (o ≡ Some x) × (f x ≡ y)
some_of_mapped f None y e = absurd (let z : ◌≡◌ {A = ℕ} 0 1 = cc in omega arith)
some_of_mapped f (Some x) y e = (x, refl, cc)

pub some_of_else : {A B : Type 0} (o : Option A) (f : A → Option B) (y : B) → some_else o None f ≡ Some y → (x : A) × (o ≡ Some x) × (f x ≡ Some y)
some_of_else None f y e = absurd (let z : ◌≡◌ {A = ℕ} 0 1 = cc in omega arith)
some_of_else (Some x) f y e = (x, refl, e)
