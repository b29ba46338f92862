-- The first four bytes of a day, as they are read.
use Rattle.std.proofs.Common.{◌≡◌, ℕ, ◌≤◌, List, length, get_or, take, Result, ap, ◌∙◌, arith}
use Rattle.std.proofs.lemmas.List.{get_or-take}
use Rattle.std.proofs.lemmas.Bool.{le-leb}
use Rattle.rows.specs.declared.refusal.Refusal.{Refusal}
use Rattle.rows.specs.Refusals.{horizon_from}
use Rattle.day.specs.Opening.{first_number, opened}

first_of_four : (xs four : List ℕ) (h : ℕ) → four ≡ take 4 xs → h ≡ first_number four → h ≡ first_number xs
first_of_four xs four h front read =
    let at0 = ap (λ l. get_or l 0 0) front ∙ get_or-take 4 xs 0 0 (omega arith) in
    let at1 = ap (λ l. get_or l 1 0) front ∙ get_or-take 4 xs 1 0 (omega arith) in
    let at2 = ap (λ l. get_or l 2 0) front ∙ get_or-take 4 xs 2 0 (omega arith) in
    let at3 = ap (λ l. get_or l 3 0) front ∙ get_or-take 4 xs 3 0 (omega arith) in
    omega arith

pub opened_by : (xs four : List ℕ) (h : ℕ) (r : Result ℕ Refusal) → 4 ≤ length xs → four ≡ take 4 xs → h ≡ first_number four → r ≡ horizon_from h → r ≡ opened xs
opened_by xs four h r long front read e =
    e ∙ ap horizon_from (first_of_four xs four h front read) ∙ rw (le-leb 4 (length xs) long)
