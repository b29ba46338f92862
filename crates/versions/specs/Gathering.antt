-- What is found under numbers, one after the other, up to the first under which nothing is.
use Rattle.std.specs.Prelude.{ℕ, zero, suc, ◌+◌, List, [], ◌∷◌, ◌++◌, Ok, Err, Option, Result}
use Rattle.rows.specs.declared.refusal.Refusal.{Refusal}
use Rattle.rows.specs.Checks.{some_else, and_then}

-- what was gathered so far, and what is gathered behind it
abbrev pub behind : {A : Type 0} → List A → Result (List A) Refusal → Result (List A) Refusal
behind done rest = and_then rest (λ xs. Ok (done ++ xs))

unfoldable pub gathered : {A : Type 0} → (ℕ → Option (List A)) → (ℕ → Refusal) → List ℕ → Result (List A) Refusal
gathered find none [] = Ok []
gathered find none (n ∷ ns) = some_else (find n) (Err (none n)) (λ xs. behind xs (gathered find none ns))

-- so many numbers from one on
abbrev pub counting : ℕ → ℕ → List ℕ
counting zero k = []
counting (suc n) k = k ∷ counting n (k + 1)
