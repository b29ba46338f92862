-- Actions as a kind and three numbers, both ways.
use Rattle.std.proofs.Common.{◌≡◌, ℕ, zero, suc, ◌^◌, ◌<◌, true, ◌&&◌, eqb, List, [], ◌∷◌, Some, refl, subst, arith}
use Rattle.std.proofs.lemmas.Bool.{lt-ltb}
use Rattle.std.proofs.lemmas.Bool.Decides.{nat_tests}
use Rattle.codec.specs.declared.action.Action.{Action}
use Rattle.codec.specs.declared.action.Action.TheVariants.{Insert, Erase, Raise, Pack}
use Rattle.codec.specs.Words.{AreWords}
use Rattle.codec.specs.Bounds.{is_key}
use Rattle.codec.specs.Actions.{span, action_words, action_fits, action_in}
use Rattle.codec.proofs.SealLaws.{cond_some}

-- the numbers of an action, and that they are read as it
pub record Numbers (o : Action) : Type 0 where
  pub kind : ℕ
  pub first : ℕ
  pub second : ℕ
  pub third : ℕ
  pub are : action_words o ≡ kind ∷ first ∷ second ∷ third ∷ []
  pub back : action_in kind first second third ≡ Some o
  pub fit : AreWords (action_words o)

pub numbers : (o : Action) → action_fits o ≡ true → Numbers o
numbers Insert h = record { kind = 0; first = 0; second = 0; third = 0; are = refl; back = refl; fit = (omega arith, (omega arith, (omega arith, (omega arith, tt)))) }
numbers (Erase s) h =
    record {
      kind = 1;
      first = s.from;
      second = s.to;
      third = 0;
      are = refl;
      back = grind (arith, nat_tests);
      fit = (omega arith, (grind (arith, nat_tests), (grind (arith, nat_tests), (omega arith, tt))));
    }
numbers (Raise s n) h =
    record {
      kind = 2;
      first = s.from;
      second = s.to;
      third = n;
      are = refl;
      back = grind (arith, nat_tests);
      fit = (omega arith, (grind (arith, nat_tests), (grind (arith, nat_tests), (grind (arith, nat_tests), tt))));
    }
numbers (Pack m) h =
    record { kind = 3; first = m; second = 0; third = 0; are = refl; back = refl; fit = (omega arith, (grind (arith, nat_tests), (omega arith, (omega arith, tt)))) }

-- whatever reads as an action is its numbers
abbrev Are : List ℕ → Action → Type 0
Are ws o = (ws ≡ action_words o) × (action_fits o ≡ true)

pub action_is : (k a b c : ℕ) (o : Action) → a < 2 ^ 64 → action_in k a b c ≡ Some o → (k ∷ a ∷ b ∷ c ∷ [] ≡ action_words o) × (action_fits o ≡ true)
action_is zero a b c o h e =
    let p = cond_some (eqb a 0 && (eqb b 0 && eqb c 0)) Insert o e in
    let t : (eqb a 0 && (eqb b 0 && eqb c 0)) ≡ true = p.0 in
    let x : a ≡ 0 = grind (arith, nat_tests) in
    let y : b ≡ 0 = grind (arith, nat_tests) in
    let z : c ≡ 0 = grind (arith, nat_tests) in
    subst (Are (0 ∷ a ∷ b ∷ c ∷ [])) p.1 (cc, refl)
action_is (suc zero) a b c o h e =
    let p = cond_some (is_key a && (is_key b && eqb c 0)) (Erase (span a b)) o e in
    let t : (is_key a && (is_key b && eqb c 0)) ≡ true = p.0 in
    let z : c ≡ 0 = grind (arith, nat_tests) in
    subst (Are (1 ∷ a ∷ b ∷ c ∷ [])) p.1 (cc, grind (arith, nat_tests))
action_is (suc (suc zero)) a b c o h e =
    let p = cond_some (is_key a && (is_key b && is_key c)) (Raise (span a b) c) o e in
    subst (Are (2 ∷ a ∷ b ∷ c ∷ [])) p.1 (refl, p.0)
action_is (suc (suc (suc zero))) a b c o h e =
    let p = cond_some (eqb b 0 && eqb c 0) (Pack a) o e in
    let t : (eqb b 0 && eqb c 0) ≡ true = p.0 in
    let y : b ≡ 0 = grind (arith, nat_tests) in
    let z : c ≡ 0 = grind (arith, nat_tests) in
    subst (Are (3 ∷ a ∷ b ∷ c ∷ [])) p.1 (cc, lt-ltb a (2 ^ 64) h)
action_is (suc (suc (suc (suc k)))) a b c o h e = absurd (let z : ◌≡◌ {A = ℕ} 0 1 = cc in omega arith)
