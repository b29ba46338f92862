-- What reading an entry gives, step by step.
use Rattle.std.proofs.Common.{◌≡◌, ℕ, ◌+◌, ◌*◌, ◌^◌, ◌<◌, ◌≤◌, Bool, true, false, cond, ltb, leb, List, [], ◌∷◌, ◌++◌, length, get_or, take, drop, Some, None, Option, sym, refl, ap, ◌∙◌, arith}
use Rattle.std.specs.Option.{option_map}
use Rattle.std.proofs.lemmas.List.{drop-map, take-map, append-nil, append_assoc, drop_more, drop_all, at_drop_more, at_drop_all}
use Rattle.std.proofs.lemmas.Bool.{and_from, and_left, and_right, cond-true, cond-false, eq-eqb, ne_eqb, le-leb, lt-leb, le-ltb, lt-ltb}
use Rattle.rows.specs.Checks.{some_else}
use Rattle.codec.specs.declared.action.Action.{Action}
use Rattle.codec.specs.declared.entry.Added.{Added}
use Rattle.codec.specs.Bounds.{is_key}
use Rattle.codec.specs.Actions.{action_in}
use Rattle.codec.specs.Words.{le, numbers}
use Rattle.codec.specs.Seals.{unsealed}
use Rattle.codec.specs.Entries.{TableChange, LogEntry, added_of, added_fits, adds_in, takes_in, change_made, is_whole, change_from, entry_from, entry_in}
use Rattle.codec.proofs.SealLaws.{cond_some}

-- what a loop has read, and what is left to read
abbrev pub behind : {A : Type 0} → List A → Option (List A) → Option (List A)
behind old o = option_map (λ rest. old ++ rest) o

one_behind : {A : Type 0} (old new : List A) (x : A) (o : Option (List A)) → new ≡ old ++ x ∷ [] → behind new o ≡ behind old (option_map (λ l. x ∷ l) o)
one_behind old new x None e = refl
one_behind old new x (Some l) e = ap Some (ap (λ k. k ++ l) e ∙ append_assoc old (x ∷ []) l)

-- the numbers of taken files
module _ (ws : List ℕ) (i n : ℕ) (h : i < length ws) (is : n ≡ get_or ws i 0) where
  takes_turn : takes_in (drop i ws) ≡ cond (is_key n) (option_map (λ l. n ∷ l) (takes_in (drop (i + 1) ws))) None
  takes_turn = at_drop_more takes_in ws i 0 h ∙ ap (λ k. cond (is_key k) (option_map (λ l. k ∷ l) (takes_in (drop (i + 1) ws))) None) (sym is)

  pub take_more_in : (old new : List ℕ) → n < 2 ^ 32 → new ≡ old ++ n ∷ [] → behind old (takes_in (drop i ws)) ≡ takes_in ws → behind new (takes_in (drop (i + 1) ws)) ≡ takes_in ws
  take_more_in old new b e inv = one_behind old new n (takes_in (drop (i + 1) ws)) e ∙ ap (behind old) (sym (takes_turn ∙ cond-true (is_key n) _ _ (lt-ltb n (2 ^ 32) b))) ∙ inv

  pub take_too_large : (old : List ℕ) → 2 ^ 32 ≤ n → behind old (takes_in (drop i ws)) ≡ takes_in ws → None ≡ takes_in ws
  take_too_large old b inv = ap (behind old) (sym (takes_turn ∙ cond-false (is_key n) _ _ (le-ltb n (2 ^ 32) b))) ∙ inv

pub takes_all_in : (ws old : List ℕ) (i : ℕ) → length ws ≤ i → behind old (takes_in (drop i ws)) ≡ takes_in ws → Some old ≡ takes_in ws
takes_all_in ws old i h inv = ap Some (sym (append-nil old)) ∙ ap (behind old) (sym (at_drop_all takes_in ws i h)) ∙ inv

-- added files, three numbers to each
module _ (ws : List ℕ) (i n a b : ℕ) (h : 3 * i + 3 ≤ length ws) (is_n : n ≡ get_or ws (3 * i + 0) 0) (is_a : a ≡ get_or ws (3 * i + 1) 0) (is_b : b ≡ get_or ws (3 * i + 2) 0) where
  abbrev answer : Option (List Added)
  answer = cond (added_fits (added_of n a b)) (option_map (λ l. added_of n a b ∷ l) (adds_in (drop (3 * (i + 1)) ws))) None

  adds_turn : adds_in (drop (3 * i) ws) ≡ answer
  adds_turn =
      let one = drop_more ws (3 * i) 0 (omega arith) in
      let two = drop_more ws (3 * i + 1) 0 (omega arith) in
      let three = drop_more ws (3 * i + 2) 0 (omega arith) in
      let z : 3 * i + 0 ≡ 3 * i = omega arith in
      let e : 3 * i + 1 + 1 ≡ 3 * i + 2 = omega arith in
      let f : 3 * i + 2 + 1 ≡ 3 * (i + 1) = omega arith in
      let first : n ≡ get_or ws (3 * i) 0 = is_n ∙ ap (λ k. get_or ws k 0) z in
      let all : drop (3 * i) ws ≡ n ∷ a ∷ b ∷ drop (3 * (i + 1)) ws = cc in
      ap adds_in all

  pub add_more_in : (old new : List Added) (x : Added) → Some x ≡ cond (added_fits (added_of n a b)) (Some (added_of n a b)) None → new ≡ old ++ x ∷ []
      → behind old (adds_in (drop (3 * i) ws)) ≡ adds_in ws → behind new (adds_in (drop (3 * (i + 1)) ws)) ≡ adds_in ws
  add_more_in old new x s e inv =
      let p = cond_some (added_fits (added_of n a b)) (added_of n a b) x (sym s) in
      one_behind old new (added_of n a b) (adds_in (drop (3 * (i + 1)) ws)) (e ∙ ap (λ y. old ++ y ∷ []) (sym p.1)) ∙ ap (behind old) (sym (adds_turn ∙ cond-true (added_fits (added_of n a b)) _ _ p.0)) ∙ inv

  pub add_out_of_bounds : (old : List Added) → None ≡ cond (added_fits (added_of n a b)) (Some (added_of n a b)) None → behind old (adds_in (drop (3 * i) ws)) ≡ adds_in ws → None ≡ adds_in ws
  add_out_of_bounds old s inv = ap (behind old) (sym (adds_turn ∙ none (added_fits (added_of n a b)) s)) ∙ inv
    where
      none : (t : Bool) → None ≡ cond t (Some (added_of n a b)) None → cond t (option_map (λ l. added_of n a b ∷ l) (adds_in (drop (3 * (i + 1)) ws))) None ≡ None
      none true f = absurd (let z : ◌≡◌ {A = ℕ} 0 1 = cc in omega arith)
      none false f = refl

pub adds_all_in : (ws : List ℕ) (old : List Added) (i : ℕ) → length ws ≤ 3 * i → behind old (adds_in (drop (3 * i) ws)) ≡ adds_in ws → Some old ≡ adds_in ws
adds_all_in ws old i h inv = ap Some (sym (append-nil old)) ∙ ap (behind old) (sym (at_drop_all adds_in ws (3 * i) h)) ∙ inv

-- the files of a change, as parts of its numbers
module _ (ws files part : List (List ℕ)) (k : ℕ) (behind_head : files ≡ drop 7 ws) where
  pub adds_part : part ≡ take k files → adds_in (numbers part) ≡ adds_in (take k (drop 7 (numbers ws)))
  adds_part e = ap (λ l. adds_in (numbers l)) (e ∙ ap (take k) behind_head) ∙ ap adds_in (sym (take-map le k (drop 7 ws)) ∙ ap (take k) (sym (drop-map le 7 ws)))

  pub takes_part : part ≡ drop k files → takes_in (numbers part) ≡ takes_in (drop k (drop 7 (numbers ws)))
  takes_part e = ap (λ l. takes_in (numbers l)) (e ∙ ap (drop k) behind_head) ∙ ap takes_in (sym (drop-map le k (drop 7 ws)) ∙ ap (drop k) (sym (drop-map le 7 ws)))

none_both : {A : Type 0} (b : Bool) → None ≡ cond {A = Option A} b None None
none_both true = refl
none_both false = refl

-- the change that numbers are, by the code's tests
module _ (ws : List ℕ) where
  pub change_too_short : length ws < 7 → None ≡ change_from ws
  unfolding change_from
  change_too_short h = sym (cond-false (is_whole ws) _ _ (and_left (leb 7 (length ws)) _ (lt-leb 7 (length ws) h)))

  pub change_other_count : (length ws ≡ 7 + 3 * get_or ws 5 0 + get_or ws 6 0 → ⊥) → None ≡ change_from ws
  unfolding change_from
  change_other_count h = sym (cond-false (is_whole ws) _ _ (and_right (leb 7 (length ws)) _ (ne_eqb (length ws) (7 + 3 * get_or ws 5 0 + get_or ws 6 0) h)))

  module _ (k a b d m : ℕ) (is_k : k ≡ get_or ws 0 0) (is_a : a ≡ get_or ws 1 0) (is_b : b ≡ get_or ws 2 0) (is_d : d ≡ get_or ws 3 0) (is_m : m ≡ get_or ws 5 0) where
    made_of : (o : Option Action) (adds : Option (List Added)) (takes : Option (List ℕ)) → o ≡ action_in k a b d → adds ≡ adds_in (take (3 * m) (drop 7 ws)) → takes ≡ takes_in (drop (3 * m) (drop 7 ws))
        → cond (is_whole ws) (change_made o (get_or ws 4 0) adds takes) None ≡ change_from ws
    unfolding change_from
    made_of o adds takes eo ea et = cc

    pub change_no_action : None ≡ action_in k a b d → None ≡ change_from ws
    change_no_action eo = none_both (is_whole ws) ∙ made_of None _ _ eo refl refl

    pub change_no_adds : (o : Action) → Some o ≡ action_in k a b d → None ≡ adds_in (take (3 * m) (drop 7 ws)) → None ≡ change_from ws
    change_no_adds o eo ea = none_both (is_whole ws) ∙ made_of (Some o) None _ eo ea refl

    pub change_no_takes : (o : Action) (adds : List Added) → Some o ≡ action_in k a b d → Some adds ≡ adds_in (take (3 * m) (drop 7 ws)) → None ≡ takes_in (drop (3 * m) (drop 7 ws)) → None ≡ change_from ws
    change_no_takes o adds eo ea et = none_both (is_whole ws) ∙ made_of (Some o) (Some adds) None eo ea et

    pub change_done : (c : TableChange) (n : ℕ) → Some c.action ≡ action_in k a b d → c.touched ≡ get_or ws 4 0 → Some c.adds ≡ adds_in (take (3 * m) (drop 7 ws)) → Some c.takes ≡ takes_in (drop (3 * m) (drop 7 ws))
        → n ≡ get_or ws 6 0 → length ws ≡ 7 + 3 * m + n → Some c ≡ change_from ws
    change_done c n eo et ea ek en h =
        let whole : is_whole ws ≡ true = and_from _ _ (le-leb 7 (length ws) (omega arith)) (eq-eqb (length ws) (7 + 3 * get_or ws 5 0 + get_or ws 6 0) (omega arith)) in
        ap (λ t. Some (record { action = c.action; touched = t; adds = c.adds; takes = c.takes })) et ∙ sym (cond-true (is_whole ws) _ _ whole) ∙ made_of (Some c.action) (Some c.adds) (Some c.takes) eo ea ek

-- the entry that bytes are, by the code's tests
pub entry_unsealed : (xs : List ℕ) → unsealed xs ≡ None → None ≡ entry_in xs
unfolding entry_in
entry_unsealed xs u = ap (λ o. some_else o None entry_from) (sym u)

module _ (xs ws : List ℕ) (u : unsealed xs ≡ Some ws) where
  entry_sealed : entry_from ws ≡ entry_in xs
  unfolding entry_in
  entry_sealed = ap (λ o. some_else o None entry_from) (sym u)

  pub entry_no_change : None ≡ change_from (drop 3 ws) → None ≡ entry_in xs
  entry_no_change e = none_both (ltb (get_or ws 1 0) 16) ∙ ap (λ o. cond (ltb (get_or ws 1 0) 16) (option_map (λ c. record { place = get_or ws 0 0; writer = get_or ws 1 0; serial = get_or ws 2 0; change = c }) o) None) e ∙ entry_sealed

  pub entry_too_short : length ws < 3 → None ≡ entry_in xs
  entry_too_short h = entry_no_change (change_too_short [] (omega arith) ∙ ap change_from (sym (drop_all 3 ws (omega arith))))

  pub entry_no_writer : 16 ≤ get_or ws 1 0 → None ≡ entry_in xs
  entry_no_writer w = sym (cond-false (ltb (get_or ws 1 0) 16) _ _ (le-ltb (get_or ws 1 0) 16 w)) ∙ entry_sealed

  pub entry_found : (e : LogEntry) → e.place ≡ get_or ws 0 0 → e.writer ≡ get_or ws 1 0 → e.serial ≡ get_or ws 2 0 → e.writer < 16 → Some e.change ≡ change_from (drop 3 ws) → Some e ≡ entry_in xs
  entry_found e p q s w ec =
      ap Some (λ i. record { place = p i; writer = q i; serial = s i; change = e.change })
      ∙ ap (option_map (λ c. record { place = get_or ws 0 0; writer = get_or ws 1 0; serial = get_or ws 2 0; change = c })) ec
      ∙ sym (cond-true (ltb (get_or ws 1 0) 16) _ _ (lt-ltb (get_or ws 1 0) 16 (omega arith)))
      ∙ entry_sealed
