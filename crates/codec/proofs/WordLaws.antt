-- The laws of bytes and numbers: what writes leave, and that reading gives back what was written.
use Rattle.std.proofs.Common.{◌≡◌, ℕ, zero, suc, ◌+◌, ◌-◌, ◌*◌, ◌/◌, ◌%◌, ◌^◌, ◌<◌, ◌≤◌, leb, List, [], ◌∷◌, ◌++◌, length, get_or, take, drop, Some, sum, sym, refl, ap, ◌∙◌, pow-suc, arith}
use native.Mathlib.Nat.{div-div-eq-div-mul}
use borrow.Rule.Slice.PartMut.{put_mid}
use Rattle.std.proofs.lemmas.List.{get_or-take, get_or-drop, append-nil, append_assoc, drop-drop, drop_all, drop_at, drop-take, length-append, length-take, length-take-le, length-drop, take_at, take-append-drop, take-append-le, take_more, take_rest, take-take}
use Rattle.std.proofs.ByRecursion.{All-take, All-drop}
use Rattle.std.proofs.lemmas.List.Sums.{sum_by-cons}
use Rattle.std.proofs.Math.Nat.{mul-suc}
use Rattle.std.specs.Prelude.{fold}
use Rattle.std.specs.Simd.{first_chunks}
use Rattle.codec.proofs.BoundLaws.{some_of_cond}
use Rattle.codec.specs.Words.{AreBytes, AreWords, le, numbers, word_from, bytes_le, put_at, bytes_of, words, words_of}

-- eight bytes, as the code makes them of a number and a number of them
pub bytes_eight : (x : ℕ) → (x % 256) ∷ (x / 256 % 256) ∷ (x / 65536 % 256) ∷ (x / 16777216 % 256) ∷ (x / 4294967296 % 256) ∷ (x / 1099511627776 % 256) ∷ (x / 281474976710656 % 256) ∷ (x / 72057594037927936 % 256) ∷ [] ≡ bytes_le 8 x
bytes_eight x = simp div-div-eq-div-mul

-- a number and its lowest bytes
pub length_bytes_le : (k x : ℕ) → length (bytes_le k x) ≡ k
length_bytes_le zero x = refl
length_bytes_le (suc k) x = ap suc (length_bytes_le k (x / 256))

pub le_bytes_le : (k x : ℕ) → x < 256 ^ k → le (bytes_le k x) ≡ x
le_bytes_le zero x h = omega arith
le_bytes_le (suc k) x h =
    let p : 256 ^ suc k ≡ 256 ^ k * 256 = pow-suc 256 k in
    let q : x / 256 < 256 ^ k = omega (arith, p) in
    omega (arith, le_bytes_le k (x / 256) q)

pub bytes_le_le : (k : ℕ) (xs : List ℕ) → AreBytes xs → length xs ≡ k → bytes_le k (le xs) ≡ xs
bytes_le_le zero [] a h = refl
bytes_le_le zero (x ∷ xs) a h = absurd (omega arith)
bytes_le_le (suc k) [] a h = absurd (omega arith)
bytes_le_le (suc k) (x ∷ xs) a h =
    let b = a.0 in
    let q : (x + le xs * 256) / 256 ≡ le xs = omega arith in
    let r : (x + le xs * 256) % 256 ≡ x = omega arith in
    ap (λ v. v ∷ bytes_le k ((x + le xs * 256) / 256)) r ∙ ap (λ v. x ∷ bytes_le k v) q ∙ ap (λ l. x ∷ l) (bytes_le_le k xs a.1 (omega arith))

le_below : (k : ℕ) (xs : List ℕ) → AreBytes xs → length xs ≤ k → le xs < 256 ^ k
le_below zero [] a h = omega arith
le_below zero (x ∷ xs) a h = absurd (omega arith)
le_below (suc k) [] a h = let p : 256 ^ suc k ≡ 256 ^ k * 256 = pow-suc 256 k in let q = le_below k [] a (omega arith) in omega (arith, p, q)
le_below (suc k) (x ∷ xs) a h = let p : 256 ^ suc k ≡ 256 ^ k * 256 = pow-suc 256 k in let b = a.0 in omega (arith, p, le_below k xs a.1 (omega arith))

-- a write at a place, and a write of nothing
pub put_mid-put_at : (a k : ℕ) (xs ys zs : List ℕ) → zs ≡ ys → k ≡ length ys → put_mid a k xs zs ≡ put_at a ys xs
put_mid-put_at a k xs ys zs e h = rw (e, h, drop-drop)

pub put_none : (k : ℕ) (xs : List ℕ) → xs ≡ put_at k (bytes_of []) xs
unfolding bytes_of
put_none k xs = sym (take-append-drop k xs) ∙ ap (λ j. take k xs ++ drop j xs) (omega arith)

pub put_front : (bs xs : List ℕ) → put_at 0 bs xs ≡ bs ++ drop (length bs) xs
put_front bs xs = ap (λ j. bs ++ drop j xs) (omega arith)

pub length_put_at : (i : ℕ) (ys xs : List ℕ) → i + length ys ≤ length xs → length (put_at i ys xs) ≡ length xs
length_put_at i ys xs h = simp (length-append, length-take, length-drop) (omega arith)

-- two writes, one behind the other, are one
pub put_more : (at : ℕ) (ys zs xs : List ℕ) → at ≤ length xs → put_at (at + length ys) zs (put_at at ys xs) ≡ put_at at (ys ++ zs) xs
put_more at ys zs xs h =
    let n : length (take at xs ++ ys) ≡ at + length ys = length-append (take at xs) ys ∙ ap (λ k. k + length ys) (length-take-le at xs h) in
    let rest = drop (at + length ys) xs in
    let front : take (at + length ys) (put_at at ys xs) ≡ take at xs ++ ys = ap (take (at + length ys)) (sym (append_assoc (take at xs) ys rest)) ∙ take_at (take at xs ++ ys) rest (at + length ys) n in
    let back : drop (at + length ys) (put_at at ys xs) ≡ rest = ap (drop (at + length ys)) (sym (append_assoc (take at xs) ys rest)) ∙ drop_at (take at xs ++ ys) rest (at + length ys) n in
    let far : drop (at + length ys + length zs) (put_at at ys xs) ≡ drop (at + length (ys ++ zs)) xs =
    sym (drop-drop (length zs) (at + length ys) (put_at at ys xs)) ∙ ap (drop (length zs)) back ∙ drop-drop (length zs) (at + length ys) xs
    ∙ ap (λ k. drop k xs) (omega (arith, length-append ys zs)) in
    ap (λ l. l ++ (zs ++ drop (at + length ys + length zs) (put_at at ys xs))) front
    ∙ ap (λ l. (take at xs ++ ys) ++ (zs ++ l)) far
    ∙ append_assoc (take at xs) ys (zs ++ drop (at + length (ys ++ zs)) xs)
    ∙ ap (λ l. take at xs ++ l) (sym (append_assoc ys zs (drop (at + length (ys ++ zs)) xs)))

-- what lies before a write is as it was
pub read_below : (i n at : ℕ) (ys xs : List ℕ) → i + n ≤ at → at ≤ length xs → take n (drop i (put_at at ys xs)) ≡ take n (drop i xs)
read_below i n at ys xs h l =
    let m : length (take at xs) ≡ at = length-take-le at xs l in
    sym (drop-take i n (put_at at ys xs))
    ∙ ap (drop i) (take-append-le (i + n) (take at xs) (ys ++ drop (at + length ys) xs) (omega (arith, m)) ∙ take-take (i + n) at xs h)
    ∙ drop-take i n xs

-- what was written stands where it was written
pub read_put : (i : ℕ) (ys xs : List ℕ) → i ≤ length xs → take (length ys) (drop i (put_at i ys xs)) ≡ ys
read_put i ys xs h = rw (drop_at (take i xs) (ys ++ drop (i + length ys) xs) i (length-take-le i xs h), take_at ys (drop (i + length ys) xs) (length ys) refl)

-- what a call on `&mut xs[a..]` leaves of xs, where it wrote ys to the front of the part
pub lent_on : (a : ℕ) (xs ys zs : List ℕ) → a ≤ length xs → zs ≡ ys ++ drop (length ys) (take (length xs - a) (drop a xs)) → put_mid a (length xs - a) xs zs ≡ put_at a ys xs
lent_on a xs ys zs h e =
    let r : take (length xs - a) (drop a xs) ≡ drop a xs = take_rest xs a in
    let t : zs ≡ ys ++ drop (a + length ys) xs = e ∙ ap (λ l. ys ++ drop (length ys) l) r ∙ ap (λ l. ys ++ l) (drop-drop (length ys) a xs) in
    let end : drop (length xs - a) (drop a xs) ≡ [] = drop-drop (length xs - a) a xs ∙ drop_all (a + (length xs - a)) xs (omega arith) in
    ap (λ l. take a xs ++ (zs ++ l)) end ∙ ap (λ l. take a xs ++ l) (append-nil zs ∙ t)

-- numbers that bytes write, one by one
pub length_words : (n : ℕ) (xs : List ℕ) → length (words n xs) ≡ n
unfolding words
length_words zero xs = refl
length_words (suc n) xs = ap suc (length_words n (drop 8 xs))

pub get_d_words : (n k : ℕ) (xs : List ℕ) → k < n → get_or (words n xs) k 0 ≡ le (take 8 (drop (8 * k) xs))
unfolding words
get_d_words zero k xs h = absurd (omega arith)
get_d_words (suc n) zero xs h = refl
get_d_words (suc n) (suc k) xs h = get_d_words n k (drop 8 xs) (omega arith) ∙ ap (λ l. le (take 8 l)) (drop-drop (8 * k) 8 xs ∙ ap (λ j. drop j xs) (omega arith))

pub take_words : (n m : ℕ) (xs : List ℕ) → n ≤ m → take n (words m xs) ≡ words n xs
unfolding words
take_words zero m xs h = refl
take_words (suc n) zero xs h = absurd (omega arith)
take_words (suc n) (suc m) xs h = ap (λ l. le (take 8 xs) ∷ l) (take_words n m (drop 8 xs) (omega arith))

pub words_below : (n : ℕ) (xs : List ℕ) → AreBytes xs → AreWords (words n xs)
unfolding words
words_below zero xs a = tt
words_below (suc n) xs a = (le_below 8 (take 8 xs) (All-take (λ b. b < 256) 8 xs a) (omega (arith, length-take 8 xs)), words_below n (drop 8 xs) (All-drop (λ b. b < 256) 8 xs a))

pub word_read : (xs : List ℕ) (k r : ℕ) → 8 * k + 8 ≤ length xs → word_from (8 * k) xs ≡ Some r → r ≡ get_or (words_of xs) k 0
word_read xs k r h e =
    let p = some_of_cond (leb (8 * k + 8) (length xs)) (Some (le (take 8 (drop (8 * k) xs)))) r e in
    let s : le (take 8 (drop (8 * k) xs)) ≡ r = cc p.1 in
    sym s ∙ sym (get_d_words (length xs / 8) k xs (omega arith))

-- the bytes of several numbers
pub length_bytes_of : (ws : List ℕ) → length (bytes_of ws) ≡ 8 * length ws
unfolding bytes_of
length_bytes_of [] = refl
length_bytes_of (w ∷ ws) = length-append (bytes_le 8 w) (bytes_of ws) ∙ omega (arith, length_bytes_le 8 w, length_bytes_of ws)

pub bytes_of_append : (vs ws : List ℕ) → bytes_of (vs ++ ws) ≡ bytes_of vs ++ bytes_of ws
unfolding bytes_of
bytes_of_append [] ws = refl
bytes_of_append (v ∷ vs) ws = ap (λ l. bytes_le 8 v ++ l) (bytes_of_append vs ws) ∙ sym (append_assoc (bytes_le 8 v) (bytes_of vs) (bytes_of ws))

pub bytes_of_one : (w : ℕ) → bytes_of (w ∷ []) ≡ bytes_le 8 w
unfolding bytes_of
bytes_of_one w = append-nil (bytes_le 8 w)

-- numbers that were written are read again
pub words_bytes : (ws rest : List ℕ) → AreWords ws → words (length ws) (bytes_of ws ++ rest) ≡ ws
unfolding words bytes_of
words_bytes [] rest a = refl
words_bytes (w ∷ ws) rest a =
    let e : bytes_le 8 w ++ bytes_of ws ++ rest ≡ bytes_le 8 w ++ (bytes_of ws ++ rest) = append_assoc (bytes_le 8 w) (bytes_of ws) rest in
    let f : take 8 (bytes_le 8 w ++ bytes_of ws ++ rest) ≡ bytes_le 8 w = ap (take 8) e ∙ take_at (bytes_le 8 w) (bytes_of ws ++ rest) 8 (length_bytes_le 8 w) in
    let g : drop 8 (bytes_le 8 w ++ bytes_of ws ++ rest) ≡ bytes_of ws ++ rest = ap (drop 8) e ∙ drop_at (bytes_le 8 w) (bytes_of ws ++ rest) 8 (length_bytes_le 8 w) in
    ap (λ v. v ∷ words (length ws) (drop 8 (bytes_le 8 w ++ bytes_of ws ++ rest))) (ap le f ∙ le_bytes_le 8 w a.0)
    ∙ ap (λ l. w ∷ words (length ws) l) g ∙ ap (λ l. w ∷ l) (words_bytes ws rest a.1)

-- bytes are those of the numbers that they write
pub bytes_words : (n : ℕ) (xs : List ℕ) → AreBytes xs → length xs ≡ 8 * n → bytes_of (words n xs) ≡ xs
unfolding words bytes_of
bytes_words zero [] a h = refl
bytes_words zero (x ∷ xs) a h = absurd (omega arith)
bytes_words (suc n) xs a h =
    let m : length (take 8 xs) ≡ 8 = length-take-le 8 xs (omega arith) in
    let d : length (drop 8 xs) ≡ 8 * n = length-drop 8 xs ∙ omega arith in
    ap (λ l. l ++ bytes_of (words n (drop 8 xs))) (bytes_le_le 8 (take 8 xs) (All-take (λ b. b < 256) 8 xs a) m)
    ∙ ap (λ l. take 8 xs ++ l) (bytes_words n (drop 8 xs) (All-drop (λ b. b < 256) 8 xs a) d) ∙ take-append-drop 8 xs

-- bytes cut into numbers
pub chunk_numbers : (n : ℕ) (xs : List ℕ) → numbers (first_chunks 8 n xs) ≡ words n xs
unfolding words
chunk_numbers zero xs = refl
chunk_numbers (suc n) xs = ap (λ l. le (take 8 xs) ∷ l) (chunk_numbers n (drop 8 xs))

pub get_or_numbers : (ws : List (List ℕ)) (k : ℕ) → le (get_or ws k []) ≡ get_or (numbers ws) k 0
get_or_numbers [] k = refl
get_or_numbers (w ∷ ws) zero = refl
get_or_numbers (w ∷ ws) (suc k) = get_or_numbers ws k

pub get_or_first_chunks : {A : Type 0} (k n : ℕ) (xs : List A) (i : ℕ) (d : List A) → i < n → get_or (first_chunks k n xs) i d ≡ take k (drop (k * i) xs)
get_or_first_chunks k zero xs i d h = absurd (omega arith)
get_or_first_chunks k (suc n) xs zero d h = let at : 0 ≡ k * 0 = omega arith in ap (λ j. take k (drop j xs)) at
get_or_first_chunks k (suc n) xs (suc i) d h =
    let at : k + k * i ≡ k * suc i = omega (arith, mul-suc k i) in
    get_or_first_chunks k n (drop k xs) i d (omega arith) ∙ ap (take k) (drop-drop (k * i) k xs) ∙ ap (λ j. take k (drop j xs)) at

-- the numbers of a part, and one of a chunk
pub numbers_front : (n j : ℕ) (ws head : List (List ℕ)) → head ≡ take n ws → j < n → le (get_or head j []) ≡ get_or (numbers ws) j 0
numbers_front n j ws head e h = ap (λ l. le (get_or l j [])) e ∙ ap le (get_or-take n ws j [] h) ∙ get_or_numbers ws j

pub get_or_chunk : {A : Type 0} (k n i j : ℕ) (xs : List A) (chunks : List (List A)) (d : List A) (e : A) → chunks ≡ first_chunks k n xs → i < n → j < k → get_or (get_or chunks i d) j e ≡ get_or xs (k * i + j) e
get_or_chunk k n i j xs chunks d e are h l =
    ap (λ c. get_or (get_or c i d) j e) are ∙ ap (λ c. get_or c j e) (get_or_first_chunks k n xs i d h)
    ∙ get_or-take k (drop (k * i) xs) j e l ∙ get_or-drop (k * i) xs j e

pub numbers_chunk : (k n i j : ℕ) (ws : List (List ℕ)) (chunks : List (List (List ℕ))) (d : List (List ℕ)) → chunks ≡ first_chunks k n ws → i < n → j < k
    → le (get_or (get_or chunks i d) j []) ≡ get_or (numbers ws) (k * i + j) 0
numbers_chunk k n i j ws chunks d are h l = ap le (get_or_chunk k n i j ws chunks d [] are h l) ∙ get_or_numbers ws (k * i + j)

-- a sum taken modulo 2^64 at each number
folded_from : (ws : List (List ℕ)) (t : ℕ) → t < 2 ^ 64 → fold (λ t w. (t + le w) % 2 ^ 64) t ws ≡ (t + sum (numbers ws)) % 2 ^ 64
folded_from [] t h = omega arith
folded_from (w ∷ ws) t h = folded_from ws ((t + le w) % 2 ^ 64) (omega arith) ∙ omega (arith, sum_by-cons (λ x. x) (le w) (numbers ws))

pub sum_folded : (ws : List (List ℕ)) → fold (λ t w. (t + le w) % 2 ^ 64) 0 ws ≡ sum (numbers ws) % 2 ^ 64
sum_folded ws = folded_from ws 0 (omega arith) ∙ omega arith

-- one number more of a write
pub put_next : (xs ws cur cur' : List ℕ) (k i : ℕ) → 8 * k + 8 * length ws ≤ length xs → i < length ws → cur ≡ put_at (8 * k) (bytes_of (take i ws)) xs → cur' ≡ put_at (8 * (k + i)) (bytes_le 8 (get_or ws i 0)) cur
    → cur' ≡ put_at (8 * k) (bytes_of (take (i + 1) ws)) xs
put_next xs ws cur cur' k i room h e f =
    let n : 8 * (k + i) ≡ 8 * k + length (bytes_of (take i ws)) = omega (arith, length_bytes_of (take i ws), length-take-le i ws (omega arith)) in
    f ∙ ap (put_at (8 * (k + i)) (bytes_le 8 (get_or ws i 0))) e ∙ ap (λ j. put_at j (bytes_le 8 (get_or ws i 0)) (put_at (8 * k) (bytes_of (take i ws)) xs)) n
    ∙ put_more (8 * k) (bytes_of (take i ws)) (bytes_le 8 (get_or ws i 0)) xs (omega arith)
    ∙ ap (λ l. put_at (8 * k) l xs) (ap (λ l. bytes_of (take i ws) ++ l) (sym (bytes_of_one (get_or ws i 0))) ∙ sym (bytes_of_append (take i ws) (get_or ws i 0 ∷ [])) ∙ ap bytes_of (sym (take_more ws i 0 h)))

-- numbers written behind others
pub put_on : (b k : ℕ) (xs cur cur' vs ws : List ℕ) → k ≡ b + 8 * length vs → b ≤ length xs → cur ≡ put_at b (bytes_of vs) xs → cur' ≡ put_at k (bytes_of ws) cur → cur' ≡ put_at b (bytes_of (vs ++ ws)) xs
put_on b k xs cur cur' vs ws n h e f =
    f ∙ ap (put_at k (bytes_of ws)) e ∙ ap (λ j. put_at j (bytes_of ws) (put_at b (bytes_of vs) xs)) (omega (arith, n, length_bytes_of vs))
    ∙ put_more b (bytes_of vs) (bytes_of ws) xs h ∙ ap (λ l. put_at b l xs) (sym (bytes_of_append vs ws))

-- the numbers at the front are those that were written there
pub front_words : (ws xs cur : List ℕ) (n : ℕ) → n ≡ length ws → 8 * n ≤ length xs → AreWords ws → cur ≡ put_at 0 (bytes_of ws) xs → take n (words_of cur) ≡ ws
front_words ws xs cur n e h a f =
    let g : cur ≡ bytes_of ws ++ drop (length (bytes_of ws)) xs = f ∙ put_front (bytes_of ws) xs in
    let m : length cur ≡ length (bytes_of ws) + length (drop (length (bytes_of ws)) xs) = ap length g ∙ length-append (bytes_of ws) (drop (length (bytes_of ws)) xs) in
    take_words n (length cur / 8) cur (omega (arith, m, length_bytes_of ws)) ∙ ap (λ k. words k cur) e ∙ ap (words (length ws)) g ∙ words_bytes ws (drop (length (bytes_of ws)) xs) a
