-- Added and taken files as numbers, both ways.
use Rattle.std.proofs.Common.{◌≡◌, ℕ, ◌*◌, true, List, [], ◌∷◌, ◌++◌, length, Some, sym, refl, ap, ◌∙◌, arith}
use Rattle.std.proofs.lemmas.Bool.Decides.{nat_tests}
use Rattle.std.proofs.lemmas.Bool.{and_from, and_parts}
use Rattle.std.specs.Option.{option_map}
use Rattle.codec.specs.declared.entry.Added.{Added}
use Rattle.codec.specs.Bounds.{is_key, every}
use Rattle.codec.specs.Words.{AreWords}
use Rattle.codec.specs.Entries.{added_of, added_fits, added_words, adds_in, takes_in}
use Rattle.codec.proofs.BoundLaws.{some_of_cond, some_of_mapped}

-- added files
pub length_added_words : (adds : List Added) → length (added_words adds) ≡ 3 * length adds
length_added_words [] = refl
length_added_words (a ∷ adds) = let h = length_added_words adds in omega arith

pub added_words_append : (xs ys : List Added) → added_words (xs ++ ys) ≡ added_words xs ++ added_words ys
added_words_append [] ys = refl
added_words_append (a ∷ xs) ys = ap (λ l. a.number ∷ a.keys.from ∷ a.keys.to ∷ l) (added_words_append xs ys)

pub adds_back : (adds : List Added) → every added_fits adds ≡ true → adds_in (added_words adds) ≡ Some adds
adds_back [] h = refl
adds_back (a ∷ adds) h =
    let p = and_parts (added_fits a) (every added_fits adds) h in
    rw (p.0, adds_back adds p.1)

pub adds_are : (ws : List ℕ) (adds : List Added) → adds_in ws ≡ Some adds → (ws ≡ added_words adds) × (every added_fits adds ≡ true)
adds_are [] adds e = let f : [] ≡ adds = cc in (ap added_words f, ap (every added_fits) (sym f))
adds_are (n ∷ []) adds e = absurd (let z : ◌≡◌ {A = ℕ} 0 1 = cc in omega arith)
adds_are (n ∷ a ∷ []) adds e = absurd (let z : ◌≡◌ {A = ℕ} 0 1 = cc in omega arith)
adds_are (n ∷ a ∷ b ∷ ws) adds e =
    let p = some_of_cond (added_fits (added_of n a b)) (option_map (λ l. added_of n a b ∷ l) (adds_in ws)) adds e in
    let q = some_of_mapped (λ l. added_of n a b ∷ l) (adds_in ws) adds p.1 in
    let r = adds_are ws q.0 q.1 in
    (ap (λ l. n ∷ a ∷ b ∷ l) r.0 ∙ ap added_words q.2, ap (every added_fits) (sym q.2) ∙ and_from (added_fits (added_of n a b)) (every added_fits q.0) p.0 r.1)

pub adds_fit_words : (adds : List Added) → every added_fits adds ≡ true → AreWords (added_words adds)
adds_fit_words [] h = tt
adds_fit_words (a ∷ adds) h =
    let p = and_parts (added_fits a) (every added_fits adds) h in
    let f : added_fits a ≡ true = p.0 in
    (grind (arith, nat_tests), (grind (arith, nat_tests), (grind (arith, nat_tests), adds_fit_words adds p.1)))

-- taken files
pub takes_back : (takes : List ℕ) → every is_key takes ≡ true → takes_in takes ≡ Some takes
takes_back [] h = refl
takes_back (n ∷ takes) h =
    let p = and_parts (is_key n) (every is_key takes) h in
    rw (p.0, takes_back takes p.1)

pub takes_are : (ws takes : List ℕ) → takes_in ws ≡ Some takes → (ws ≡ takes) × (every is_key takes ≡ true)
takes_are [] takes e = let f : [] ≡ takes = cc in (f, ap (every is_key) (sym f))
takes_are (n ∷ ws) takes e =
    let p = some_of_cond (is_key n) (option_map (λ l. n ∷ l) (takes_in ws)) takes e in
    let q = some_of_mapped (λ l. n ∷ l) (takes_in ws) takes p.1 in
    let r = takes_are ws q.0 q.1 in
    (ap (λ l. n ∷ l) r.0 ∙ q.2, ap (every is_key) (sym q.2) ∙ and_from (is_key n) (every is_key q.0) p.0 r.1)

pub takes_fit_words : (takes : List ℕ) → every is_key takes ≡ true → AreWords takes
takes_fit_words [] h = tt
takes_fit_words (n ∷ takes) h =
    let p = and_parts (is_key n) (every is_key takes) h in
    let f : is_key n ≡ true = p.0 in
    (grind (arith, nat_tests), takes_fit_words takes p.1)
