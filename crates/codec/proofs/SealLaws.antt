-- The laws of numbers with their sum: what was sealed is found again, and only what was sealed is found.
use Rattle.std.proofs.Common.{◌≡◌, ℕ, ◌+◌, ◌-◌, ◌*◌, ◌/◌, ◌%◌, ◌^◌, ◌<◌, ◌≤◌, Bool, true, false, cond, eqb, ltb, leb, List, [], ◌∷◌, ◌++◌, length, get_or, take, drop, Some, None, sum, Option, sym, refl, ap, ◌∙◌, subst, arith}
use Rattle.std.proofs.lemmas.List.{append-nil, length-take-le, length_push, get_or_push, map_push, take_at, take_more, take_all}
use Rattle.std.proofs.ByRecursion.{All-push, All-take}
use Rattle.std.proofs.lemmas.Bool.{ne_eqb, eq-eqb, le-ltb, lt-ltb, and_parts, eqb-true, ltb-true, leb-true, le-leb, lt-leb}
use Rattle.std.specs.Simd.{first_chunks}
use Rattle.codec.specs.Words.{AreBytes, AreWords, le, numbers, put_at, words, words_of, bytes_of}
use Rattle.codec.specs.Seals.{sealed, sealed_bytes, unsealed, written}
use Rattle.codec.proofs.WordLaws.{chunk_numbers, length_words, length_bytes_of, words_bytes, bytes_words, words_below, put_on, front_words, put_front}

pub cond_some : {A : Type 0} (b : Bool) (x y : A) → cond b (Some x) None ≡ Some y → (b ≡ true) × (x ≡ y)
cond_some true x y e = (refl, cc)
cond_some false x y e = absurd (let z : ◌≡◌ {A = ℕ} 0 1 = cc in omega arith)

-- what `unseal` answers, by its tests
module _ (xs : List ℕ) where
  abbrev last : ℕ
  last = length xs / 8 - 1

  abbrev SumIsLast : Type 0
  SumIsLast = get_or (words_of xs) last 0 ≡ sum (take last (words_of xs)) % 2 ^ 64

  pub unsealed_odd : (length xs % 8 ≡ 0 → ⊥) → unsealed xs ≡ None
  unfolding unsealed
  unsealed_odd h = rw (ne_eqb (length xs % 8) 0 h)

  pub unsealed_empty : length xs % 8 ≡ 0 → length xs / 8 ≡ 0 → unsealed xs ≡ None
  unfolding unsealed
  unsealed_empty g h = rw (eq-eqb (length xs % 8) 0 g, le-ltb 0 (length xs) (omega arith))

  pub unsealed_done : length xs % 8 ≡ 0 → 0 < length xs → SumIsLast → unsealed xs ≡ Some (take last (words_of xs))
  unfolding unsealed
  unsealed_done g p h = rw (eq-eqb (length xs % 8) 0 g, lt-ltb 0 (length xs) p, eq-eqb (get_or (words_of xs) last 0) (sum (take last (words_of xs)) % 2 ^ 64) h)

  -- the bytes as numbers, of which the last may be the sum
  pub unsealed_by_sum : (front : List (List ℕ)) (last : List ℕ) → length xs % 8 ≡ 0 → first_chunks 8 (length xs / 8) xs ≡ front ++ last ∷ []
      → cond (eqb (le last) (sum (numbers front) % 2 ^ 64)) (Some (numbers front)) None ≡ unsealed xs
  unfolding unsealed
  unsealed_by_sum front last g e =
      let F = numbers front in
      let w : words_of xs ≡ numbers front ++ le last ∷ [] = sym (chunk_numbers (length xs / 8) xs) ∙ ap numbers e ∙ map_push le front last in
      let l : length xs / 8 ≡ length (numbers front) + 1 = sym (length_words (length xs / 8) xs) ∙ ap length w ∙ length_push F (le last) in
      let n : length xs / 8 - 1 ≡ length (numbers front) = omega (arith, l) in
      let t : take (length xs / 8 - 1) (words_of xs) ≡ numbers front = ap (λ j. take j (words_of xs)) n ∙ ap (take (length F)) w ∙ take_at F (le last ∷ []) (length F) refl in
      let v : get_or (words_of xs) (length xs / 8 - 1) 0 ≡ le last = ap (λ j. get_or (words_of xs) j 0) n ∙ ap (λ l. get_or l (length F) 0) w ∙ get_or_push F (le last) 0 (length F) refl in
      rw (eq-eqb (length xs % 8) 0 g, lt-ltb 0 (length xs) (omega (arith, l)), v, t)

-- what bytes are from which numbers were unsealed
pub record Sealing (xs ws : List ℕ) : Type 0 where
  pub whole : 8 * length ws + 8 ≡ length xs
  pub front : ws ≡ take (length ws) (words_of xs)
  pub last_is : get_or (words_of xs) (length ws) 0 ≡ sum ws % 2 ^ 64

pub sealing : (xs ws : List ℕ) → unsealed xs ≡ Some ws → Sealing xs ws
unfolding unsealed
sealing xs ws e =
    let p = cond_some _ (take (length xs / 8 - 1) (words_of xs)) ws e in
    let q = and_parts (eqb (length xs % 8) 0) _ p.0 in
    let s = and_parts (ltb 0 (length xs)) _ q.1 in
    let a : length xs % 8 ≡ 0 = eqb-true _ _ q.0 in
    let b : 0 < length xs = ltb-true _ _ s.0 in
    let d : get_or (words_of xs) (length xs / 8 - 1) 0 ≡ sum (take (length xs / 8 - 1) (words_of xs)) % 2 ^ 64 = eqb-true _ _ s.1 in
    let n : length ws ≡ length xs / 8 - 1 = ap length (sym p.1) ∙ length-take-le (length xs / 8 - 1) (words_of xs) (omega (arith, length_words (length xs / 8) xs)) in
    record {
      whole = omega arith;
      front = sym p.1 ∙ ap (λ k. take k (words_of xs)) (sym n);
      last_is = ap (λ k. get_or (words_of xs) k 0) n ∙ d ∙ ap (λ l. sum l % 2 ^ 64) p.1;
    }

all_sealed : (ws : List ℕ) → AreWords ws → AreWords (sealed ws)
all_sealed ws a = All-push (λ w. w < 2 ^ 64) ws (sum ws % 2 ^ 64) a (omega arith)

pub length_sealed_bytes : (ws : List ℕ) → length (sealed_bytes ws) ≡ 8 * (length ws + 1)
length_sealed_bytes ws = length_bytes_of (sealed ws) ∙ ap (λ n. 8 * n) (length_push ws (sum ws % 2 ^ 64))

-- what was sealed is found again
pub unsealed_sealed : (ws : List ℕ) → AreWords ws → unsealed (sealed_bytes ws) ≡ Some ws
unsealed_sealed ws a =
    let xs = sealed_bytes ws in
    let n : length xs ≡ 8 * (length ws + 1) = length_sealed_bytes ws in
    let m : length xs / 8 ≡ length (sealed ws) = omega (arith, n, length_push ws (sum ws % 2 ^ 64)) in
    let w : words_of xs ≡ sealed ws = ap (λ k. words k xs) m ∙ ap (words (length (sealed ws))) (sym (append-nil xs)) ∙ words_bytes (sealed ws) [] (all_sealed ws a) in
    let k : length xs / 8 - 1 ≡ length ws = omega (arith, n) in
    let t : take (length xs / 8 - 1) (words_of xs) ≡ ws = ap (λ j. take j (words_of xs)) k ∙ ap (take (length ws)) w ∙ take_at ws (sum ws % 2 ^ 64 ∷ []) (length ws) refl in
    let g : get_or (words_of xs) (length xs / 8 - 1) 0 ≡ sum ws % 2 ^ 64 = ap (λ j. get_or (words_of xs) j 0) k ∙ ap (λ l. get_or l (length ws) 0) w ∙ get_or_push ws (sum ws % 2 ^ 64) 0 (length ws) refl in
    unsealed_done xs (omega (arith, n)) (omega (arith, n)) (g ∙ ap (λ l. sum l % 2 ^ 64) (sym t)) ∙ ap Some t

-- only what was sealed is found
pub sealed_unsealed : (xs ws : List ℕ) → AreBytes xs → unsealed xs ≡ Some ws → (xs ≡ sealed_bytes ws) × AreWords ws
sealed_unsealed xs ws a e =
    let s = sealing xs ws e in
    let whole : 8 * length ws + 8 ≡ length xs = s.whole in
    let W = words_of xs in
    let lw : length W ≡ length xs / 8 = length_words (length xs / 8) xs in
    let t : take (length ws + 1) W ≡ W = take_all (length ws + 1) W (omega arith) in
    let f : sealed ws ≡ W = ap (λ v. ws ++ v ∷ []) (sym s.last_is) ∙ ap (λ l. l ++ get_or W (length ws) 0 ∷ []) s.front ∙ sym (take_more W (length ws) 0 (omega arith)) ∙ t in (
      sym (ap bytes_of f ∙ bytes_words (length xs / 8) xs a (omega arith)),
      subst AreWords (sym s.front) (All-take (λ w. w < 2 ^ 64) (length ws) W (words_below (length xs / 8) xs a)),
    )

-- what the sum, written behind the numbers, leaves
pub seal_done : (ws xs cur cur' : List ℕ) (n : ℕ) → n ≡ length ws → 8 * n + 8 ≤ length xs → AreWords ws → cur ≡ put_at 0 (bytes_of ws) xs → cur' ≡ put_at (8 * n) (bytes_of ((sum (take n (words_of cur)) % 2 ^ 64) ∷ [])) cur
    → cur' ≡ put_at 0 (sealed_bytes ws) xs
seal_done ws xs cur cur' n e h a f g =
    put_on 0 (8 * n) xs cur cur' ws (sum ws % 2 ^ 64 ∷ []) (omega arith) (omega arith) f
    (g ∙ ap (λ l. put_at (8 * n) (bytes_of ((sum l % 2 ^ 64) ∷ [])) cur) (front_words ws xs cur n e (omega arith) a f))

-- what was written to the front of lent bytes, or did not fit
pub written_done : (bs xs cur : List ℕ) (r : ℕ) → length bs ≤ length xs → r ≡ length bs → cur ≡ put_at 0 bs xs → ◌≡◌ {A = Option ℕ × List ℕ} (Some r, cur) (written bs xs)
written_done bs xs cur r h e f = rw (le-leb (length bs) (length xs) h, e, f, put_front bs xs)

pub written_not : (bs xs : List ℕ) → length xs < length bs → ◌≡◌ {A = Option ℕ × List ℕ} (None, xs) (written bs xs)
written_not bs xs h = rw (lt-leb (length bs) (length xs) h)

pub written_some : (bs xs cur : List ℕ) (n : ℕ) → ◌≡◌ {A = Option ℕ × List ℕ} (Some n, cur) (written bs xs) → (length bs ≤ length xs) × (n ≡ length bs) × (cur ≡ bs ++ drop (length bs) xs)
written_some bs xs cur n e = go (leb (length bs) (length xs)) refl (ap (λ (p : Option ℕ × List ℕ). p.0) e) (ap (λ (p : Option ℕ × List ℕ). p.1) e)
  where
    go : (b : Bool) → leb (length bs) (length xs) ≡ b → Some n ≡ (cond {A = Option ℕ × List ℕ} b (Some (length bs), bs ++ drop (length bs) xs) (None, xs)).0 → cur ≡ (cond {A = Option ℕ × List ℕ} b (Some (length bs), bs ++ drop (length bs) xs) (None, xs)).1
        → (length bs ≤ length xs) × (n ≡ length bs) × (cur ≡ bs ++ drop (length bs) xs)
    go true t f g = (leb-true (length bs) (length xs) t, cc, g)
    go false t f g = absurd (let z : ◌≡◌ {A = ℕ} 0 1 = cc in omega arith)
