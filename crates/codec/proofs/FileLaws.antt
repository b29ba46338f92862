-- Files come back, are one, and have their rows where they lie.
use Rattle.std.proofs.Common.{◌≡◌, ℕ, zero, suc, ◌+◌, ◌*◌, ◌/◌, ◌^◌, ◌<◌, ◌≤◌, true, cond, ltb, ◌⊎◌, List, [], ◌∷◌, ◌++◌, length, get_or, take, drop, Some, None, sym, refl, ap, ◌∙◌, inl, inr, arith}
use Rattle.std.specs.List.{slice_get}
use Rattle.std.proofs.ByRecursion.{All-get_or}
use Rattle.std.proofs.lemmas.List.{drop-take, length-drop}
use Rattle.std.proofs.lemmas.Option.{slice_get-get_or, slice_get_past}
use Rattle.std.proofs.lemmas.Bool.{and_parts, and_from, ltb-true, lt-ltb, le-leb, leb-true, cases_lt}
use Rattle.std.proofs.lemmas.Bool.Decides.{nat_tests}
use Rattle.rows.specs.declared.row.Row.{Row}
use Rattle.rows.specs.Checks.{some_else}
use Rattle.rows.specs.Numbers.{row}
use Rattle.rows.specs.Rows.{amount_limit}
use Rattle.codec.specs.declared.file.Head.{Head}
use Rattle.codec.specs.Bounds.{is_key, is_word}
use Rattle.codec.specs.Bounds.{every}
use Rattle.codec.specs.FileLaws.{FilesComeBack, FilesAreOne, RowsAreThere}
use Rattle.codec.specs.Files.{File, file, row_fits, count_fits, file_fits, row_words, pairs, file_words, file_bytes, head_in, with_rows, file_from, file_in, row_in, row_fitting, fitting, rows_from}
use Rattle.codec.specs.Seals.{sealed_bytes, unsealed}
use Rattle.codec.specs.Words.{AreWords, words_of}
use Rattle.codec.proofs.BoundLaws.{every_at, some_of_else}
use Rattle.codec.proofs.FileReads.{length_pairs, row_past, row_in_pairs, file_unsealed}
use Rattle.codec.proofs.WordLaws.{length_words}
use Rattle.codec.proofs.SealLaws.{cond_some, length_sealed_bytes, unsealed_sealed, sealed_unsealed, sealing}

-- rows as numbers, and back
pub length_row_words : (rs : List Row) → length (row_words rs) ≡ 2 * length rs
length_row_words [] = refl
length_row_words (r ∷ rs) = let h = length_row_words rs in omega arith

pub row_words_append : (rs ss : List Row) → row_words (rs ++ ss) ≡ row_words rs ++ row_words ss
row_words_append [] ss = refl
row_words_append (r ∷ rs) ss = ap (λ l. r.key ∷ r.amount ∷ l) (row_words_append rs ss)

pub pairs_row_words : (rs : List Row) → pairs (row_words rs) ≡ rs
pairs_row_words [] = refl
pairs_row_words (r ∷ rs) = ap (λ l. r ∷ l) (pairs_row_words rs)

pub row_words_pairs : (n : ℕ) (vs : List ℕ) → length vs ≡ 2 * n → row_words (pairs vs) ≡ vs
row_words_pairs zero [] h = refl
row_words_pairs zero (a ∷ vs) h = absurd (omega arith)
row_words_pairs (suc n) [] h = absurd (omega arith)
row_words_pairs (suc n) (a ∷ []) h = absurd (omega arith)
row_words_pairs (suc n) (a ∷ b ∷ vs) h = ap (λ l. a ∷ b ∷ l) (row_words_pairs n vs (omega arith))

pub rows_are_words : (rs : List Row) → every row_fits rs ≡ true → AreWords (row_words rs)
rows_are_words [] e = tt
rows_are_words (r ∷ rs) e =
    let p = and_parts (row_fits r) (every row_fits rs) e in
    let q = and_parts (is_key r.key) (ltb r.amount amount_limit) p.0 in
    let k = ltb-true _ _ q.0 in
    let a = ltb-true _ _ q.1 in
    (omega arith, (omega arith, rows_are_words rs p.1))

pub length_file_words : (f : File) → length (file_words f) ≡ 3 + 2 * length f.rows
length_file_words f = let h = length_row_words f.rows in omega arith

pub length_file_bytes : (f : File) → length (file_bytes f) ≡ 8 * (4 + 2 * length f.rows)
unfolding file_bytes
length_file_bytes f = length_sealed_bytes (file_words f) ∙ omega (arith, length_file_words f)

-- the bounds of a file, one by one
pub record Fits (f : File) : Type 0 where
  pub number : f.number < 2 ^ 32
  pub began : f.began < 2 ^ 64
  pub some : 0 < length f.rows
  pub few : length f.rows ≤ 65536
  pub all : every row_fits f.rows ≡ true

pub fits : (f : File) → file_fits f ≡ true → Fits f
fits f e =
    let p = and_parts (is_key f.number) _ e in
    let q = and_parts (is_word f.began) _ p.1 in
    let r = and_parts (count_fits (length f.rows)) _ q.1 in
    let s = and_parts (ltb 0 (length f.rows)) _ r.0 in
    record { number = ltb-true _ _ p.0; began = ltb-true _ _ q.0; some = ltb-true _ _ s.0; few = leb-true _ _ s.1; all = r.1 }

pub fits_from : (f : File) → Fits f → file_fits f ≡ true
fits_from f h =
    and_from _ _ (lt-ltb f.number (2 ^ 32) h.number) (and_from _ _ (lt-ltb f.began (2 ^ 64) h.began)
    (and_from _ _ (and_from _ _ (lt-ltb 0 (length f.rows) h.some) (le-leb (length f.rows) 65536 h.few)) h.all))

pub file_are_words : (f : File) → Fits f → AreWords (file_words f)
file_are_words f h = let a = h.number in let b = h.began in let c = h.few in (omega arith, (h.began, (omega arith, rows_are_words f.rows h.all)))

pub files_come_back : FilesComeBack
unfolding file_bytes
files_come_back f e =
    let h = fits f e in
    let ws = file_words f in
    let n = length_file_words f in
    let small = h.number in
    let some = h.some in
    let few = h.few in
    let g : Head = record { number = f.number; began = f.began; count = length f.rows } in
    let head : head_in ws ≡ Some (record { number = f.number; began = f.began; count = length f.rows }) = grind (arith, nat_tests) in
    file_unsealed (file_bytes f) ws (unsealed_sealed ws (file_are_words f h))
    ∙ ap (λ o. some_else o None (λ k. with_rows k (pairs (row_words f.rows)))) head
    ∙ ap (with_rows g) (pairs_row_words f.rows)
    ∙ ap (λ b. cond b (Some f) None) h.all

-- what numbers that are a file say
record Read (ws : List ℕ) (f : File) : Type 0 where
  count : ℕ
  long : length ws ≡ 3 + 2 * count
  number : f.number ≡ get_or ws 0 0
  began : f.began ≡ get_or ws 1 0
  counted : get_or ws 2 0 ≡ count
  rows : f.rows ≡ pairs (drop 3 ws)
  small : get_or ws 0 0 < 2 ^ 32
  some : 0 < count
  few : count ≤ 65536
  all : every row_fits (pairs (drop 3 ws)) ≡ true

head_read : (ws : List ℕ) (h : Head) → head_in ws ≡ Some h
    → (h.number ≡ get_or ws 0 0) × (h.began ≡ get_or ws 1 0) × (h.count ≡ get_or ws 2 0) × (length ws ≡ 3 + 2 * h.count) × (get_or ws 0 0 < 2 ^ 32) × (0 < h.count) × (h.count ≤ 65536)
head_read ws h e = (grind (arith, nat_tests), grind (arith, nat_tests), grind (arith, nat_tests), grind (arith, nat_tests), grind (arith, nat_tests), grind (arith, nat_tests), grind (arith, nat_tests))

file_read : (ws : List ℕ) (f : File) → file_from ws ≡ Some f → Read ws f
file_read ws f e =
    let o = some_of_else (head_in ws) (λ h. with_rows h (pairs (drop 3 ws))) f e in
    let h = o.0 in
    let p = cond_some (every row_fits (pairs (drop 3 ws))) (file o.0.number o.0.began (pairs (drop 3 ws))) f o.2 in
    let q = head_read ws o.0 o.1 in
    record {
      count = h.count;
      long = q.3;
      number = ap (λ (g : File). g.number) (sym p.1) ∙ q.0;
      began = ap (λ (g : File). g.began) (sym p.1) ∙ q.1;
      counted = sym q.2;
      rows = ap (λ (g : File). g.rows) (sym p.1);
      small = q.4;
      some = q.5;
      few = q.6;
      all = p.0;
    }

file_is_words : (ws : List ℕ) (f : File) → Read ws f → ws ≡ file_words f
file_is_words [] f r = absurd (omega (arith, r.long))
file_is_words (x ∷ []) f r = absurd (omega (arith, r.long))
file_is_words (x ∷ y ∷ []) f r = absurd (omega (arith, r.long))
file_is_words (x ∷ y ∷ c ∷ vs) f r =
    let n : length vs ≡ 2 * c = omega (arith, r.long, r.counted) in
    let l : length (pairs vs) ≡ c = length_pairs c vs n in
    let all : x ∷ y ∷ c ∷ vs ≡ x ∷ y ∷ length (pairs vs) ∷ row_words (pairs vs) =
    ap (λ k. x ∷ y ∷ k ∷ vs) (sym l) ∙ ap (λ vs'. x ∷ y ∷ length (pairs vs) ∷ vs') (sym (row_words_pairs c vs n)) in
    all ∙ cc (r.number, r.began, r.rows)

read_fits : (ws : List ℕ) (f : File) → AreWords ws → Read ws f → Fits f
read_fits ws f a r =
    let l : length f.rows ≡ r.count = ap length r.rows ∙ length_pairs r.count (drop 3 ws) (length-drop 3 ws ∙ omega (arith, r.long)) in
    let b = All-get_or (λ w. w < 2 ^ 64) ws 1 0 (omega (arith, r.long)) a in
    record {
      number = omega (arith, r.number, r.small);
      began = omega (arith, r.began, b);
      some = omega (arith, l, r.some);
      few = omega (arith, l, r.few);
      all = ap (every row_fits) r.rows ∙ r.all;
    }

sealed_file : (xs : List ℕ) (f : File) → file_in xs ≡ Some f → (ws : List ℕ) × (unsealed xs ≡ Some ws) × (file_from ws ≡ Some f)
unfolding file_in
sealed_file xs f e = some_of_else (unsealed xs) file_from f e

pub files_are_one : FilesAreOne
unfolding file_bytes
files_are_one xs f a e =
    let s = sealed_file xs f e in
    let q = sealed_unsealed xs s.0 a s.1 in
    let r = file_read s.0 f s.2 in
    (q.0 ∙ ap sealed_bytes (file_is_words s.0 f r), fits_from f (read_fits s.0 f q.1 r))

-- the pairs of numbers behind the head, of which the sum is none
pairs_but_last : (n : ℕ) (vs : List ℕ) → length vs ≡ 2 * n + 1 → pairs (take (2 * n) vs) ≡ pairs vs
pairs_but_last zero [] h = absurd (omega arith)
pairs_but_last zero (a ∷ []) h = refl
pairs_but_last zero (a ∷ b ∷ vs) h = absurd (omega arith)
pairs_but_last (suc n) [] h = absurd (omega arith)
pairs_but_last (suc n) (a ∷ []) h = absurd (omega arith)
pairs_but_last (suc n) (a ∷ b ∷ vs) h =
    let two : 2 * suc n ≡ suc (suc (2 * n)) = omega arith in
    ap (λ k. pairs (take k (a ∷ b ∷ vs))) two ∙ ap (λ l. row a b ∷ l) (pairs_but_last n vs (omega arith))

-- how long a file is, and its rows
pub rows_of_file : (xs : List ℕ) (f : File) → file_in xs ≡ Some f → (8 * (3 + 2 * length f.rows) + 8 ≡ length xs) × (f.rows ≡ pairs (drop 3 (words_of xs))) × (every row_fits f.rows ≡ true)
rows_of_file xs f e =
    let s = sealed_file xs f e in
    let ws = s.0 in
    let W = words_of xs in
    let k = length f.rows in
    let q = sealing xs s.0 s.1 in
    let r = file_read s.0 f s.2 in
    let l : length f.rows ≡ r.count = ap length r.rows ∙ length_pairs r.count (drop 3 s.0) (length-drop 3 s.0 ∙ omega (arith, r.long)) in
    let n : length s.0 ≡ 3 + 2 * length f.rows = omega (arith, r.long, l) in
    let long : length (drop 3 W) ≡ 2 * k + 1 = length-drop 3 W ∙ omega (arith, n, q.whole, length_words (length xs / 8) xs) in (
      omega (arith, n, q.whole),
      r.rows ∙ ap (λ vs. pairs (drop 3 vs)) q.front ∙ ap (λ m. pairs (drop 3 (take m W))) n ∙ ap pairs (drop-take 3 (2 * k) W) ∙ pairs_but_last k (drop 3 W) long,
      ap (every row_fits) r.rows ∙ r.all,
    )

pub rows_are_there : RowsAreThere
rows_are_there xs f e i = go (rows_of_file xs f e) (cases_lt i (length f.rows))
  where
    go : (8 * (3 + 2 * length f.rows) + 8 ≡ length xs) × (f.rows ≡ pairs (drop 3 (words_of xs))) × (every row_fits f.rows ≡ true)
        → (i < length f.rows) ⊎ (length f.rows ≤ i) → row_in (words_of xs) i ≡ slice_get f.rows i
    go p (inl h) =
        let d = row 0 0 in
        sym (row_in_pairs (words_of xs) i d (omega (arith, h, ap length p.1)))
        ∙ ap (λ rs. row_fitting (get_or rs i d)) (sym p.1)
        ∙ ap (λ b. cond b (Some (get_or f.rows i d)) None) (every_at row_fits f.rows i d p.2 h)
        ∙ sym (slice_get-get_or f.rows i d h)
    go p (inr h) = sym (row_past (words_of xs) i (omega (arith, h, ap length p.1))) ∙ sym (slice_get_past f.rows i h)

-- the rows that a file's bytes give one by one are its rows
fitting_all : (rs : List Row) → every row_fits rs ≡ true → fitting rs ≡ rs
fitting_all [] e = refl
fitting_all (r ∷ rs) e =
    let p = and_parts (row_fits r) (every row_fits rs) e in
    rw (p.0, fitting_all rs p.1)

pub rows_from_file : (xs : List ℕ) (f : File) → file_in xs ≡ Some f → rows_from xs ≡ f.rows
rows_from_file xs f e = let p = rows_of_file xs f e in ap fitting (sym p.1) ∙ fitting_all f.rows p.2
