-- What is gathered, step by step.
use Rattle.std.proofs.Common.{◌≡◌, ℕ, suc, ◌+◌, ◌-◌, ◌<◌, ◌≤◌, List, [], ◌∷◌, ◌++◌, Some, None, Ok, Err, Option, Result, sym, refl, ap, ◌∙◌, arith}
use Rattle.std.proofs.lemmas.List.{append_assoc, append-nil}
use Rattle.rows.specs.declared.refusal.Refusal.{Refusal}
use Rattle.rows.specs.Checks.{some_else}
use Rattle.versions.specs.Gathering.{behind, gathered, counting}

behind_append : {A : Type 0} (done xs : List A) (rest : Result (List A) Refusal) → behind (done ++ xs) rest ≡ behind done (behind xs rest)
behind_append done xs (Ok ys) = ap Ok (append_assoc done xs ys)
behind_append done xs (Err e) = refl

behind_nothing : {A : Type 0} (rest : Result (List A) Refusal) → behind [] rest ≡ rest
behind_nothing (Ok ys) = refl
behind_nothing (Err e) = refl

module _ {A : Type 0} (find : ℕ → Option (List A)) (none : ℕ → Refusal) where
  pub gather_start : (ns : List ℕ) → behind [] (gathered find none ns) ≡ gathered find none ns
  gather_start ns = behind_nothing (gathered find none ns)

  module _ (done : List A) (rest : List ℕ) (all : Result (List A) Refusal) (so_far : behind done (gathered find none rest) ≡ all) where
    pub gather_go : (n : ℕ) (ns : List ℕ) (xs : List A) → rest ≡ n ∷ ns → find n ≡ Some xs → behind (done ++ xs) (gathered find none ns) ≡ all
    unfolding gathered
    gather_go n ns xs e f =
        behind_append done xs (gathered find none ns) ∙ ap (λ o. behind done (some_else o (Err (none n)) (λ ys. behind ys (gathered find none ns)))) (sym f)
        ∙ ap (λ l. behind done (gathered find none l)) (sym e) ∙ so_far

    pub gather_stop : (n : ℕ) (ns : List ℕ) → rest ≡ n ∷ ns → find n ≡ None → Err (none n) ≡ all
    unfolding gathered
    gather_stop n ns e f =
        ap (λ o. behind done (some_else o (Err (none n)) (λ ys. behind ys (gathered find none ns)))) (sym f) ∙ ap (λ l. behind done (gathered find none l)) (sym e) ∙ so_far

    pub gather_end : rest ≡ [] → Ok done ≡ all
    unfolding gathered
    gather_end e = ap Ok (sym (append-nil done)) ∙ ap (λ l. behind done (gathered find none l)) (sym e) ∙ so_far

-- numbers from one on, one step further
pub counting_more : (n i : ℕ) → i < n → counting (n - i) i ≡ i ∷ counting (n - (i + 1)) (i + 1)
counting_more n i h = let e : n - i ≡ suc (n - (i + 1)) = omega arith in ap (λ k. counting k i) e

pub counting_end : (n i : ℕ) → n ≤ i → counting (n - i) i ≡ []
counting_end n i h = let e : n - i ≡ 0 = omega arith in ap (λ k. counting k i) e
