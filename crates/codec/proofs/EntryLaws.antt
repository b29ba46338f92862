-- Entries come back from their bytes, and bytes that read as an entry are its own.
use Rattle.std.proofs.Common.{◌≡◌, ℕ, ◌+◌, ◌*◌, ◌^◌, ◌<◌, ◌≤◌, true, ◌&&◌, ltb, leb, List, [], ◌∷◌, ◌++◌, length, get_or, take, drop, Some, None, Option, sym, refl, ap, ◌∙◌, arith}
use Rattle.std.specs.Option.{option_map}
use Rattle.std.proofs.ByRecursion.{All-append, All-drop, All-get_or}
use Rattle.std.proofs.lemmas.List.{drop_at, length-append, length-drop, take-append-drop, take_at, length-take-le}
use Rattle.std.proofs.lemmas.Bool.{and_from, and_parts, cond-true, eq-eqb, eqb-true, le-leb, leb-true, lt-ltb, ltb-true}
use Rattle.rows.specs.Checks.{some_else}
use Rattle.codec.specs.declared.action.Action.{Action}
use Rattle.codec.specs.declared.entry.Added.{Added}
use Rattle.codec.specs.Bounds.{is_key, is_word, every}
use Rattle.codec.specs.Actions.{action_words, action_fits, action_in}
use Rattle.codec.specs.Words.{AreBytes, AreWords}
use Rattle.codec.specs.Seals.{sealed_bytes, unsealed}
use Rattle.codec.specs.Entries.{TableChange, LogEntry, added_fits, change_fits, entry_fits, added_words, change_head, change_words, entry_words, entry_bytes, adds_in, takes_in, change_made, is_whole, change_from, entry_from, entry_in}
use Rattle.codec.proofs.SealLaws.{unsealed_sealed, sealed_unsealed}
use Rattle.codec.proofs.BoundLaws.{some_of_cond, some_of_mapped, some_of_else}
use Rattle.codec.proofs.ActionLaws.{numbers, action_is}
use Rattle.codec.proofs.EntryFiles.{length_added_words, adds_back, adds_are, adds_fit_words, takes_back, takes_are, takes_fit_words}

-- bounds, one by one
pub record Bounds (c : TableChange) : Type 0 where
  pub action : action_fits c.action ≡ true
  pub touched : c.touched < 2 ^ 64
  pub many_adds : length c.adds < 2 ^ 64
  pub adds : every added_fits c.adds ≡ true
  pub many_takes : length c.takes < 2 ^ 64
  pub takes : every is_key c.takes ≡ true

bounds : (c : TableChange) → change_fits c ≡ true → Bounds c
bounds c h =
    let p = and_parts (action_fits c.action) _ h in
    let q = and_parts (is_word c.touched) _ p.1 in
    let r = and_parts (is_word (length c.adds) && every added_fits c.adds) _ q.1 in
    let s = and_parts (is_word (length c.adds)) _ r.0 in
    let t = and_parts (is_word (length c.takes)) _ r.1 in
    record {
      action = p.0;
      touched = ltb-true _ _ q.0;
      many_adds = ltb-true _ _ s.0;
      adds = s.1;
      many_takes = ltb-true _ _ t.0;
      takes = t.1;
    }

in_bounds : (c : TableChange) → Bounds c → change_fits c ≡ true
in_bounds c b =
    and_from _ _ b.action (and_from _ _ (lt-ltb c.touched (2 ^ 64) b.touched)
    (and_from _ _ (and_from _ _ (lt-ltb (length c.adds) (2 ^ 64) b.many_adds) b.adds) (and_from _ _ (lt-ltb (length c.takes) (2 ^ 64) b.many_takes) b.takes)))

-- numbers of changes and entries in their bounds fit 64 bits
change_fits_words : (c : TableChange) → change_fits c ≡ true → AreWords (change_words c)
change_fits_words c h =
    let b = bounds c h in
    let W = λ (w : ℕ). w < 2 ^ 64 in
    All-append W (change_head c) (added_words c.adds ++ c.takes)
    (All-append W (action_words c.action) (c.touched ∷ length c.adds ∷ length c.takes ∷ []) (numbers c.action b.action).fit (b.touched, (b.many_adds, (b.many_takes, tt))))
    (All-append W (added_words c.adds) c.takes (adds_fit_words c.adds b.adds) (takes_fit_words c.takes b.takes))

pub entry_fits_words : (e : LogEntry) → entry_fits e ≡ true → AreWords (entry_words e)
entry_fits_words e h =
    let p = and_parts (is_word e.place) _ h in
    let q = and_parts (ltb e.writer 16) _ p.1 in
    let r = and_parts (is_word e.serial) _ q.1 in
    let w : e.writer < 16 = ltb-true _ _ q.0 in
    (ltb-true _ _ p.0, (omega arith, (ltb-true _ _ r.0, change_fits_words e.change r.1)))

-- a change read from its seven first numbers and those of its files
change_from_list : (k a b d t m n : ℕ) (ws : List ℕ) → length ws ≡ 3 * m + n
    → change_from (k ∷ a ∷ b ∷ d ∷ t ∷ m ∷ n ∷ ws) ≡ change_made (action_in k a b d) t (adds_in (take (3 * m) ws)) (takes_in (drop (3 * m) ws))
unfolding change_from
change_from_list k a b d t m n ws e =
    cond-true (is_whole (k ∷ a ∷ b ∷ d ∷ t ∷ m ∷ n ∷ ws)) _ _
    (and_from _ _ (le-leb 7 (length (k ∷ a ∷ b ∷ d ∷ t ∷ m ∷ n ∷ ws)) (omega arith)) (eq-eqb (length (k ∷ a ∷ b ∷ d ∷ t ∷ m ∷ n ∷ ws)) (7 + 3 * m + n) (omega arith)))

change_back : (c : TableChange) → change_fits c ≡ true → change_from (change_words c) ≡ Some c
change_back c h =
    let b = bounds c h in
    let o = numbers c.action b.action in
    let A = added_words c.adds in
    let long = length_added_words c.adds in
    let files = change_from_list o.kind o.first o.second o.third c.touched (length c.adds) (length c.takes) (added_words c.adds ++ c.takes) (length-append (added_words c.adds) c.takes ∙ ap (λ n. n + length c.takes) long) in
    ap (λ l. change_from ((l ++ c.touched ∷ length c.adds ∷ length c.takes ∷ []) ++ (added_words c.adds ++ c.takes))) o.are
    ∙ files
    ∙ ap (λ a. change_made a c.touched (adds_in (take (3 * length c.adds) (A ++ c.takes))) (takes_in (drop (3 * length c.adds) (A ++ c.takes)))) o.back
    ∙ ap (λ l. change_made (Some c.action) c.touched l (takes_in (drop (3 * length c.adds) (A ++ c.takes)))) (ap adds_in (take_at A c.takes (3 * length c.adds) long) ∙ adds_back c.adds b.adds)
    ∙ ap (λ l. change_made (Some c.action) c.touched (Some c.adds) l) (ap takes_in (drop_at A c.takes (3 * length c.adds) long) ∙ takes_back c.takes b.takes)

entry_in_some : (xs ws : List ℕ) → unsealed xs ≡ Some ws → entry_in xs ≡ entry_from ws
unfolding entry_in
entry_in_some xs ws e = ap (λ o. some_else o None entry_from) e

pub come_back : (e : LogEntry) → entry_fits e ≡ true → entry_in (entry_bytes e) ≡ Some e
unfolding entry_bytes
come_back e h =
    let p = and_parts (is_word e.place) _ h in
    let q = and_parts (ltb e.writer 16) _ p.1 in
    let r = and_parts (is_word e.serial) _ q.1 in
    entry_in_some (entry_bytes e) (entry_words e) (unsealed_sealed (entry_words e) (entry_fits_words e h))
    ∙ cond-true (ltb e.writer 16) _ _ q.0
    ∙ ap (option_map (λ c. record { place = e.place; writer = e.writer; serial = e.serial; change = c })) (change_back e.change r.1)

-- a list by its first numbers
seven : (ws : List ℕ) → 7 ≤ length ws → ws ≡ get_or ws 0 0 ∷ get_or ws 1 0 ∷ get_or ws 2 0 ∷ get_or ws 3 0 ∷ get_or ws 4 0 ∷ get_or ws 5 0 ∷ get_or ws 6 0 ∷ drop 7 ws
seven [] l = absurd (omega arith)
seven (a ∷ []) l = absurd (omega arith)
seven (a ∷ b ∷ []) l = absurd (omega arith)
seven (a ∷ b ∷ c ∷ []) l = absurd (omega arith)
seven (a ∷ b ∷ c ∷ d ∷ []) l = absurd (omega arith)
seven (a ∷ b ∷ c ∷ d ∷ e ∷ []) l = absurd (omega arith)
seven (a ∷ b ∷ c ∷ d ∷ e ∷ f ∷ []) l = absurd (omega arith)
seven (a ∷ b ∷ c ∷ d ∷ e ∷ f ∷ g ∷ ws) l = refl

three : (ws : List ℕ) → 3 ≤ length ws → ws ≡ get_or ws 0 0 ∷ get_or ws 1 0 ∷ get_or ws 2 0 ∷ drop 3 ws
three [] l = absurd (omega arith)
three (a ∷ []) l = absurd (omega arith)
three (a ∷ b ∷ []) l = absurd (omega arith)
three (a ∷ b ∷ c ∷ ws) l = refl

-- the parts of which a change was made
record Parts (a : Option Action) (t : ℕ) (adds : Option (List Added)) (takes : Option (List ℕ)) (c : TableChange) : Type 0 where
  action : a ≡ Some c.action
  touched : t ≡ c.touched
  added : adds ≡ Some c.adds
  taken : takes ≡ Some c.takes

parts : (a : Option Action) (t : ℕ) (adds : Option (List Added)) (takes : Option (List ℕ)) (c : TableChange) → change_made a t adds takes ≡ Some c → Parts a t adds takes c
parts None t adds takes c e = absurd (let z : ◌≡◌ {A = ℕ} 0 1 = cc in omega arith)
parts (Some a) t None takes c e = absurd (let z : ◌≡◌ {A = ℕ} 0 1 = cc in omega arith)
parts (Some a) t (Some adds) None c e = absurd (let z : ◌≡◌ {A = ℕ} 0 1 = cc in omega arith)
parts (Some a) t (Some adds) (Some takes) c e =
    let f : record { action = a; touched = t; adds = adds; takes = takes } ≡ c = cc in
    record { action = ap (λ (x : TableChange). Some x.action) f; touched = ap (λ (x : TableChange). x.touched) f; added = ap (λ (x : TableChange). Some x.adds) f; taken = ap (λ (x : TableChange). Some x.takes) f }

same_words : (c : TableChange) (k a b d t m n : ℕ) (files : List ℕ) → k ∷ a ∷ b ∷ d ∷ [] ≡ action_words c.action → t ≡ c.touched → m ≡ length c.adds → n ≡ length c.takes → files ≡ added_words c.adds ++ c.takes
    → k ∷ a ∷ b ∷ d ∷ t ∷ m ∷ n ∷ files ≡ change_words c
same_words c k a b d t m n files ea et em en ef = ap (λ l. (l ++ t ∷ m ∷ n ∷ []) ++ files) ea ∙ cc

change_is : (ws : List ℕ) (c : TableChange) → AreWords ws → change_from ws ≡ Some c → (7 ≤ length ws) × (ws ≡ change_words c) × (change_fits c ≡ true)
unfolding change_from
change_is ws c all e =
    let files = drop 7 ws in
    let many = 3 * get_or ws 5 0 in
    let p = some_of_cond (is_whole ws) _ c e in
    let q = and_parts (leb 7 (length ws)) _ p.0 in
    let h : 7 ≤ length ws = leb-true 7 (length ws) q.0 in
    let n : length ws ≡ 7 + 3 * get_or ws 5 0 + get_or ws 6 0 = eqb-true _ _ q.1 in
    let at : (k : ℕ) → k < length ws → get_or ws k 0 < 2 ^ 64 = λ k b. All-get_or (λ w. w < 2 ^ 64) ws k 0 b all in
    let s = parts _ (get_or ws 4 0) _ _ c p.1 in
    let o = action_is (get_or ws 0 0) (get_or ws 1 0) (get_or ws 2 0) (get_or ws 3 0) c.action (at 1 (omega arith)) s.action in
    let A = adds_are (take many files) c.adds s.added in
    let T = takes_are (drop many files) c.takes s.taken in
    let lf : length (drop 7 ws) ≡ 3 * get_or ws 5 0 + get_or ws 6 0 = length-drop 7 ws ∙ omega arith in
    let la : length c.adds ≡ get_or ws 5 0 = omega (arith, length_added_words c.adds, ap length A.0, length-take-le many files (omega arith)) in
    let lt : length c.takes ≡ get_or ws 6 0 = omega (arith, ap length T.0, length-drop many files) in
    let split : drop 7 ws ≡ added_words c.adds ++ c.takes = sym (take-append-drop many files) ∙ ap (λ l. l ++ drop many files) A.0 ∙ ap (λ l. added_words c.adds ++ l) T.0 in
    let t = s.touched in
    (h, seven ws h ∙ same_words c _ _ _ _ _ _ _ _ o.0 t (sym la) (sym lt) split, in_bounds c (record { action = o.1; touched = omega (arith, t, at 4 (omega arith)); many_adds = omega (arith, la, at 5 (omega arith)); adds = A.1; many_takes = omega (arith, lt, at 6 (omega arith)); takes = T.1 }))

entry_is : (ws : List ℕ) (e : LogEntry) → AreWords ws → entry_from ws ≡ Some e → (ws ≡ entry_words e) × (entry_fits e ≡ true)
entry_is ws e all f =
    let with : TableChange → LogEntry = λ c. record { place = get_or ws 0 0; writer = get_or ws 1 0; serial = get_or ws 2 0; change = c } in
    let p = some_of_cond (ltb (get_or ws 1 0) 16) (option_map with (change_from (drop 3 ws))) e f in
    let q = some_of_mapped with (change_from (drop 3 ws)) e p.1 in
    let c = change_is (drop 3 ws) q.0 (All-drop (λ w. w < 2 ^ 64) 3 ws all) q.1 in
    let long : 10 ≤ length ws = omega (arith, c.0, length-drop 3 ws) in
    let at : (k : ℕ) → k < length ws → is_word (get_or ws k 0) ≡ true = λ k b. lt-ltb (get_or ws k 0) (2 ^ 64) (All-get_or (λ w. w < 2 ^ 64) ws k 0 b all) in (
      three ws (omega arith) ∙ ap (λ l. get_or ws 0 0 ∷ get_or ws 1 0 ∷ get_or ws 2 0 ∷ l) c.1 ∙ ap entry_words q.2,
      ap entry_fits (sym q.2) ∙ and_from _ _ (at 0 (omega arith)) (and_from _ _ p.0 (and_from _ _ (at 2 (omega arith)) c.2)),
    )

pub are_one : (xs : List ℕ) (e : LogEntry) → AreBytes xs → entry_in xs ≡ Some e → (xs ≡ entry_bytes e) × (entry_fits e ≡ true)
unfolding entry_in entry_bytes
are_one xs e bytes f =
    let u = some_of_else (unsealed xs) entry_from e f in
    let s = sealed_unsealed xs u.0 bytes u.1 in
    let w = entry_is u.0 e s.1 u.2 in
    (s.0 ∙ ap sealed_bytes w.0, w.1)
