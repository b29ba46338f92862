-- A look through the entries since, step by step.
use Rattle.std.proofs.Common.{◌≡◌, ℕ, suc, ◌+◌, ◌-◌, ◌<◌, ◌≤◌, Bool, true, false, cond, ◌||◌, eqb, List, [], ◌∷◌, length, get_or, drop, Some, None, Ok, Err, Result, sym, refl, ap, ◌∙◌, arith}
use Rattle.std.specs.BTreeSet.{contains as in_set}
use Rattle.std.specs.BTreeSet.{BTreeSet}
use Rattle.std.proofs.lemmas.List.{drop_more, drop_all}
use Rattle.std.proofs.lemmas.Bool.{or_from, or_left, or_right}
use Rattle.std.proofs.lemmas.Bool.Decides.{nat_tests}
use Rattle.rows.specs.Checks.{some_else, any}
use Rattle.rows.specs.Spans.{overlap}
use Rattle.rows.specs.declared.refusal.Refusal.{Refusal}
use Rattle.rows.specs.declared.refusal.Refusal.TheVariants.{DamagedEntry}
use Rattle.rows.specs.declared.span.Span.{Span}
use Rattle.codec.specs.declared.action.Action.{Action}
use Rattle.codec.specs.declared.action.Action.TheVariants.{Insert, Erase, Raise, Pack}
use Rattle.codec.specs.Entries.{TableChange, LogEntry}
use Rattle.store.specs.Log.{Log}
use Rattle.store.specs.StoreLaws.{entry_under}
use Rattle.versions.specs.Alive.{has}
use Rattle.versions.specs.Conflicts.{shares, reaches, misses, conflict}
use Rattle.writers.specs.Deeds.{span_of, conflict_among}
use Rattle.std.specs.Ordering.{nat_cmp}

-- a search for one that passes
module _ {A : Type 0} (p : A → Bool) (xs : List A) (i : ℕ) (inv : any p (drop i xs) ≡ any p xs) where
  pub any_end : length xs ≤ i → any p xs ≡ false
  any_end h = sym inv ∙ ap (any p) (drop_all i xs h)

  module _ (d : A) (h : i < length xs) where
    any_next : (p (get_or xs i d) || any p (drop (i + 1) xs)) ≡ any p xs
    any_next = ap (any p) (sym (drop_more xs i d h)) ∙ inv

    pub any_on : p (get_or xs i d) ≡ false → any p (drop (i + 1) xs) ≡ any p xs
    any_on e = ap (λ b. b || any p (drop (i + 1) xs)) (sym e) ∙ any_next

    pub any_here : p (get_or xs i d) ≡ true → any p xs ≡ true
    any_here e = sym any_next ∙ or_left (p (get_or xs i d)) (any p (drop (i + 1) xs)) e

-- some number is in both lists, whichever is gone through
any_or : {A : Type 0} (p q : A → Bool) (xs : List A) → any (λ x. p x || q x) xs ≡ (any p xs || any q xs)
any_or p q [] = refl
any_or p q (x ∷ xs) = let ih = any_or p q xs in grind (arith, nat_tests)

any_same : {A : Type 0} (p q : A → Bool) → ((x : A) → p x ≡ q x) → (xs : List A) → any p xs ≡ any q xs
any_same p q h [] = refl
any_same p q h (x ∷ xs) = let e = h x in let ih = any_same p q h xs in cc

has_turned : (m : ℕ) (ns : List ℕ) → any (λ n. eqb n m) ns ≡ has ns m
unfolding has
has_turned m ns = any_same (λ n. eqb n m) (eqb m) (λ n. grind (arith, nat_tests)) ns

has_none : (ns : List ℕ) → any (has []) ns ≡ false
unfolding has
has_none [] = refl
has_none (n ∷ ns) = has_none ns

shares_turned : (ms ns : List ℕ) → any (has ms) ns ≡ any (has ns) ms
unfolding has
shares_turned [] ns = has_none ns
shares_turned (m ∷ ms) ns =
    any_or (λ n. eqb n m) (has ms) ns ∙ ap (λ b. b || any (has ms) ns) (has_turned m ns) ∙ ap (λ b. has ns m || b) (shares_turned ms ns)

-- a conflict, by the set of what is taken and by the span
module _ (mine theirs : TableChange) (s : BTreeSet ℕ) (set : (n : ℕ) → in_set nat_cmp s n ≡ has mine.takes n) where
  shares_is : any (λ n. in_set nat_cmp s n) theirs.takes ≡ shares mine.takes theirs.takes
  unfolding shares
  shares_is = any_same (λ n. in_set nat_cmp s n) (has mine.takes) set theirs.takes ∙ shares_turned mine.takes theirs.takes

  pub hit_takes : any (λ n. in_set nat_cmp s n) theirs.takes ≡ true → conflict mine theirs ≡ true
  unfolding conflict
  hit_takes e = or_left (shares mine.takes theirs.takes) (misses mine.action theirs.adds) (sym shares_is ∙ e)

  misses_none : (a : Action) → span_of a ≡ None → misses a theirs.adds ≡ false
  misses_none Insert e = refl
  misses_none (Erase k) e = absurd (let z : ◌≡◌ {A = ℕ} 0 1 = cc in omega arith)
  misses_none (Raise k n) e = absurd (let z : ◌≡◌ {A = ℕ} 0 1 = cc in omega arith)
  misses_none (Pack m) e = refl

  misses_some : (a : Action) (k : Span) → span_of a ≡ Some k → misses a theirs.adds ≡ any (λ x. overlap k x.keys) theirs.adds
  unfolding reaches
  misses_some Insert k e = absurd (let z : ◌≡◌ {A = ℕ} 0 1 = cc in omega arith)
  misses_some (Erase j) k e = let q : j ≡ k = cc in ap (λ i. any (λ x. overlap i x.keys) theirs.adds) q
  misses_some (Raise j n) k e = let q : j ≡ k = cc in ap (λ i. any (λ x. overlap i x.keys) theirs.adds) q
  misses_some (Pack m) k e = absurd (let z : ◌≡◌ {A = ℕ} 0 1 = cc in omega arith)

  pub hit_adds : (k : Span) → span_of mine.action ≡ Some k → any (λ x. overlap k x.keys) theirs.adds ≡ true → conflict mine theirs ≡ true
  unfolding conflict
  hit_adds k e h = or_right (shares mine.takes theirs.takes) (misses mine.action theirs.adds) (misses_some mine.action k e ∙ h)

  module _ (none : any (λ n. in_set nat_cmp s n) theirs.takes ≡ false) where
    pub clear_of_takes : span_of mine.action ≡ None → conflict mine theirs ≡ false
    unfolding conflict
    clear_of_takes e = or_from (shares mine.takes theirs.takes) (misses mine.action theirs.adds) (sym shares_is ∙ none) (misses_none mine.action e)

    pub clear_of_all : (k : Span) → span_of mine.action ≡ Some k → any (λ x. overlap k x.keys) theirs.adds ≡ false → conflict mine theirs ≡ false
    unfolding conflict
    clear_of_all k e h = or_from (shares mine.takes theirs.takes) (misses mine.action theirs.adds) (sym shares_is ∙ none) (misses_some mine.action k e ∙ h)

-- one entry more
module _ (mine : TableChange) (l : Log) (n k : ℕ) (all : Result Bool Refusal) (inv : conflict_among mine l (n - k) k ≡ all) where
  pub among_end : n ≤ k → Ok false ≡ all
  unfolding conflict_among
  among_end h = let e : 0 ≡ n - k = omega arith in ap (λ j. conflict_among mine l j k) e ∙ inv

  module _ (h : k < n) where
    abbrev then_on : LogEntry → Result Bool Refusal
    then_on e = cond (conflict mine e.change) (Ok true) (conflict_among mine l (n - (k + 1)) (k + 1))

    among_next : some_else (entry_under l k) (Err (DamagedEntry k)) then_on ≡ all
    unfolding conflict_among
    among_next = let e : suc (n - (k + 1)) ≡ n - k = omega arith in ap (λ j. conflict_among mine l j k) e ∙ inv

    pub among_damaged : entry_under l k ≡ None → Err (DamagedEntry k) ≡ all
    among_damaged e = ap (λ o. some_else o (Err (DamagedEntry k)) then_on) (sym e) ∙ among_next

    module _ (x : LogEntry) (found : entry_under l k ≡ Some x) where
      pub among_hit : conflict mine x.change ≡ true → Ok true ≡ all
      among_hit c = ap (λ b. cond b (Ok true) (conflict_among mine l (n - (k + 1)) (k + 1))) (sym c) ∙ ap (λ o. some_else o (Err (DamagedEntry k)) then_on) (sym found) ∙ among_next

      pub among_on : conflict mine x.change ≡ false → conflict_among mine l (n - (k + 1)) (k + 1) ≡ all
      among_on c = ap (λ b. cond b (Ok true) (conflict_among mine l (n - (k + 1)) (k + 1))) (sym c) ∙ ap (λ o. some_else o (Err (DamagedEntry k)) then_on) (sym found) ∙ among_next
