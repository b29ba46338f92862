-- Checks one after the other, and a test over a list.
use Rattle.std.specs.Prelude.{Bool, false, ◌||◌, List, [], ◌∷◌, Some, None, Ok, Err, Option, Result}

-- hands on what is there, or answers in its place
abbrev pub some_else : {A B : Type 0} → Option A → B → (A → B) → B
some_else None b f = b
some_else (Some a) b f = f a

-- goes on with what is fine; the first error stands
abbrev pub and_then : {A B E : Type 0} → Result A E → (A → Result B E) → Result B E
and_then (Ok a) f = f a
and_then (Err e) f = Err e

-- whether some element passes
abbrev pub any : {A : Type 0} → (A → Bool) → List A → Bool
any p [] = false
any p (x ∷ xs) = p x || any p xs
