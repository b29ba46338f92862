-- What holds anyway holds unless memory ran out.
use Rattle.std.proofs.Common.{Bool, true, false, Err, MatchBool, Result}
use Rattle.rows.specs.declared.refusal.Refusal.{Refusal}
use Rattle.rows.specs.Refusals.{ran_out, UnlessOut}

-- what is promised of a refusal is promised of the same refusal in an answer of another type
pub unless_hands_on : (e : Refusal) (P Q : Type 0) → (P → Q) → UnlessOut {A = Unit} (Err e) P → UnlessOut {A = Unit} (Err e) Q
unless_hands_on e P Q f h = go (ran_out {A = Unit} (Err e)) h
  where
    go : (b : Bool) → MatchBool b (Unit {0}) P → MatchBool b (Unit {0}) Q
    go true p = tt
    go false p = f p

pub unless_map : {A : Type 0} (r : Result A Refusal) (P Q : Type 0) → (P → Q) → UnlessOut r P → UnlessOut r Q
unless_map r P Q f h = go (ran_out r) h
  where
    go : (b : Bool) → MatchBool b (Unit {0}) P → MatchBool b (Unit {0}) Q
    go true p = tt
    go false p = f p
