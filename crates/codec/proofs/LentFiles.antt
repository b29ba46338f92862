-- Files of lent rows, as they are written.
use Rattle.std.proofs.Common.{◌≡◌, ℕ, ◌+◌, ◌*◌, ◌/◌, ◌%◌, ◌^◌, ◌<◌, ◌≤◌, Bool, true, false, cond, eqb, List, [], ◌∷◌, ◌++◌, length, get_or, take, drop, Some, None, sum, Option, sym, refl, ap, ◌∙◌, arith}
use Rattle.std.proofs.ByRecursion.{All-append}
use Rattle.std.proofs.lemmas.List.{take_all}
use Rattle.std.proofs.lemmas.Bool.{and_parts, and_left, and_right, and_from, eq-eqb, le-leb, leb-true, lt-leb, le-ltb}
use Rattle.rows.specs.declared.row.Row.{Row}
use Rattle.rows.specs.declared.span.Span.{Span}
use Rattle.rows.specs.Numbers.{row}
use Rattle.codec.specs.declared.write.Written.{Written}
use Rattle.codec.specs.Bounds.{is_key, is_word}
use Rattle.codec.specs.Bounds.{every}
use Rattle.codec.specs.Files.{File, file, most_rows, row_fits, count_fits, file_fits, row_of, pairs, row_words, file_words, file_bytes}
use Rattle.codec.specs.Keys.{widened, keys_of}
use Rattle.codec.specs.Seals.{sealed_bytes}
use Rattle.codec.specs.Words.{AreWords, put_at, words_of, bytes_of}
use Rattle.codec.specs.Writes.{told_of, writes, lent_written, lent_keys}
use Rattle.codec.proofs.BoundLaws.{every_more, every_stop, every_end}
use Rattle.codec.proofs.FileLaws.{length_file_bytes, length_file_words, row_words_pairs, Fits, fits_from}
use Rattle.codec.proofs.FileReads.{getD_pairs, length_pairs_half}
use Rattle.codec.proofs.KeyLaws.{keys_more}
use Rattle.codec.proofs.SealLaws.{seal_done}
use Rattle.codec.proofs.WordLaws.{put_on, put_front}

-- rows of lent numbers, one by one
row_of_some : (r : Row) (k a : ℕ) → Some r ≡ row_of k a → (row_fits (row k a) ≡ true) × (row k a ≡ r)
row_of_some r k a e = by (row_fits (row k a)) e
  where
    by : (b : Bool) → Some r ≡ cond b (Some (row k a)) None → (b ≡ true) × (row k a ≡ r)
    by true p = (refl, cc)
    by false p = absurd (let z : ◌≡◌ {A = ℕ} 0 1 = cc in omega arith)

row_of_none : (k a : ℕ) → None ≡ row_of k a → row_fits (row k a) ≡ false
row_of_none k a e = by (row_fits (row k a)) e
  where
    by : (b : Bool) → None ≡ cond b (Some (row k a)) None → b ≡ false
    by true p = absurd (let z : ◌≡◌ {A = ℕ} 0 1 = cc in omega arith)
    by false p = refl

module _ (lent : List ℕ) (i : ℕ) (h : i < length lent / 2) where
  lent_at : (d : Row) → get_or (pairs lent) i d ≡ row (get_or lent (2 * i + 0) 0) (get_or lent (2 * i + 1) 0)
  lent_at d =
      let key : 2 * i ≡ 2 * i + 0 = omega arith in
      let amount : 1 + 2 * i ≡ 2 * i + 1 = omega arith in
      getD_pairs lent i d (omega arith) ∙ ap (λ k. row (get_or lent k 0) (get_or lent (1 + 2 * i) 0)) key ∙ ap (λ k. row (get_or lent (2 * i + 0) 0) (get_or lent k 0)) amount

  pub lent_more : (r : Row) (keys new : Span) → Some r ≡ row_of (get_or lent (2 * i + 0) 0) (get_or lent (2 * i + 1) 0) → new ≡ widened r.key keys
      → (every row_fits (drop i (pairs lent)) ≡ every row_fits (pairs lent)) × (keys ≡ keys_of (take i (pairs lent)))
      → (every row_fits (drop (i + 1) (pairs lent)) ≡ every row_fits (pairs lent)) × (new ≡ keys_of (take (i + 1) (pairs lent)))
  lent_more r keys new e w inv =
      let p = row_of_some r (get_or lent (2 * i + 0) 0) (get_or lent (2 * i + 1) 0) e in
      let l : i < length (pairs lent) = omega (arith, length_pairs_half lent) in
      let same : get_or (pairs lent) i r ≡ r = lent_at r ∙ p.1 in (
        sym (every_more row_fits (pairs lent) i r l (ap row_fits (lent_at r) ∙ p.0)) ∙ inv.0,
        w ∙ ap (widened r.key) inv.1 ∙ ap (λ (x : Row). widened x.key (keys_of (take i (pairs lent)))) (sym same) ∙ sym (keys_more (pairs lent) i r l),
      )

  pub lent_stop : None ≡ row_of (get_or lent (2 * i + 0) 0) (get_or lent (2 * i + 1) 0) → every row_fits (drop i (pairs lent)) ≡ every row_fits (pairs lent) → None ≡ lent_keys lent
  lent_stop e inv =
      let l : i < length (pairs lent) = omega (arith, length_pairs_half lent) in
      let bad = every_stop row_fits (pairs lent) i (row 0 0) l (ap row_fits (lent_at (row 0 0)) ∙ row_of_none (get_or lent (2 * i + 0) 0) (get_or lent (2 * i + 1) 0) e) in
      ap (λ b. cond b (Some (keys_of (pairs lent))) None) (sym bad ∙ inv)

pub lent_end : (lent : List ℕ) (i : ℕ) (keys : Span) → length lent / 2 ≤ i → every row_fits (drop i (pairs lent)) ≡ every row_fits (pairs lent) → keys ≡ keys_of (take i (pairs lent)) → Some keys ≡ lent_keys lent
lent_end lent i keys h inv e =
    let l : length (pairs lent) ≤ i = omega (arith, length_pairs_half lent) in
    ap Some (e ∙ ap keys_of (take_all i (pairs lent) l)) ∙ ap (λ b. cond b (Some (keys_of (pairs lent))) None) (sym (every_end row_fits (pairs lent) i l) ∙ inv)

-- why a file is not written
module _ (f : File) (room : ℕ) where
  pub writes_no_count : count_fits (length f.rows) ≡ false → writes f room ≡ false
  unfolding writes
  writes_no_count e = and_left (file_fits f) _ (and_right (is_key f.number) _ (and_right (is_word f.began) _ (and_left _ (every row_fits f.rows) e)))

  pub writes_no_rows : every row_fits f.rows ≡ false → writes f room ≡ false
  unfolding writes
  writes_no_rows e = and_left (file_fits f) _ (and_right (is_key f.number) _ (and_right (is_word f.began) _ (and_right (count_fits (length f.rows)) _ e)))

  pub writes_no_room : room < 8 * (4 + 2 * length f.rows) → writes f room ≡ false
  unfolding writes
  writes_no_room h = and_right (file_fits f) _ (lt-leb (length (file_bytes f)) room (omega (arith, length_file_bytes f)))

  pub writes_yes : Fits f → 8 * (4 + 2 * length f.rows) ≤ room → writes f room ≡ true
  unfolding writes
  writes_yes h r = and_from _ _ (fits_from f h) (le-leb (length (file_bytes f)) room (omega (arith, length_file_bytes f)))

pub writes_room : (f : File) (room : ℕ) → writes f room ≡ true → length (file_bytes f) ≤ room
unfolding writes
writes_room f room e = leb-true _ _ (and_parts (file_fits f) _ e).1

pub count_none : (n : ℕ) → n ≡ 0 → count_fits n ≡ false
count_none n h = and_left _ _ (le-ltb 0 n (omega arith))

pub count_many : (n : ℕ) → 65536 < n → count_fits n ≡ false
count_many n h = and_right _ _ (lt-leb n most_rows h)

pub lent_not_written : (n b : ℕ) (lent out : List ℕ) → writes (file n b (pairs lent)) (length out) ≡ false → ◌≡◌ {A = Option Written × List ℕ} (None, out) (lent_written n b lent out)
lent_not_written n b lent out e = by (eqb (length lent % 2) 0) (writes (file n b (pairs lent)) (length out)) e
  where
    by : (p w : Bool) → w ≡ false
        → ◌≡◌ {A = Option Written × List ℕ} (None, out)
        (cond p (cond w (Some (told_of (file n b (pairs lent))), file_bytes (file n b (pairs lent)) ++ drop (length (file_bytes (file n b (pairs lent)))) out) (None, out)) (None, out))
    by true true q = absurd (let z : ◌≡◌ {A = ℕ} 0 1 = cc in omega arith)
    by true false q = refl
    by false w q = refl

pub lent_keys_some : (lent : List ℕ) (keys : Span) → Some keys ≡ lent_keys lent → (every row_fits (pairs lent) ≡ true) × (keys_of (pairs lent) ≡ keys)
lent_keys_some lent keys e = by (every row_fits (pairs lent)) e
  where
    by : (b : Bool) → Some keys ≡ cond b (Some (keys_of (pairs lent))) None → (b ≡ true) × (keys_of (pairs lent) ≡ keys)
    by true p = (refl, cc)
    by false p = absurd (let z : ◌≡◌ {A = ℕ} 0 1 = cc in omega arith)

pub lent_keys_none : (lent : List ℕ) → None ≡ lent_keys lent → every row_fits (pairs lent) ≡ false
lent_keys_none lent e = by (every row_fits (pairs lent)) e
  where
    by : (b : Bool) → None ≡ cond b (Some (keys_of (pairs lent))) None → b ≡ false
    by true p = absurd (let z : ◌≡◌ {A = ℕ} 0 1 = cc in omega arith)
    by false p = refl

-- the three writes of a file: head, rows and sum
pub file_sealed : (f : File) (n b c : ℕ) (vs xs one two three : List ℕ) → file_words f ≡ n ∷ b ∷ c ∷ vs → c ≡ length f.rows → 8 * (4 + 2 * c) ≤ length xs
    → AreWords (n ∷ b ∷ c ∷ []) → AreWords vs
    → one ≡ put_at (8 * 0) (bytes_of (n ∷ b ∷ c ∷ [])) xs
    → two ≡ put_at (8 * 3) (bytes_of vs) one
    → three ≡ put_at (8 * (3 + 2 * c)) (bytes_of ((sum (take (3 + 2 * c) (words_of two)) % 2 ^ 64) ∷ [])) two
    → three ≡ put_at 0 (file_bytes f) xs
unfolding file_bytes
file_sealed f n b c vs xs one two three e ec room a1 a2 e1 e2 e3 =
    let ws = n ∷ b ∷ c ∷ vs in
    let l : length (n ∷ b ∷ c ∷ vs) ≡ 3 + 2 * c = ap length (sym e) ∙ length_file_words f ∙ ap (λ k. 3 + 2 * k) (sym ec) in
    let g : two ≡ put_at 0 (bytes_of (n ∷ b ∷ c ∷ vs)) xs = put_on 0 (8 * 3) xs one two (n ∷ b ∷ c ∷ []) vs refl (omega arith) e1 e2 in
    seal_done ws xs two three (3 + 2 * c) (sym l) (omega arith) (All-append (λ w. w < 2 ^ 64) (n ∷ b ∷ c ∷ []) vs a1 a2) g e3
    ∙ ap (λ l. put_at 0 (sealed_bytes l) xs) (sym e)

pub lent_is_written : (n b : ℕ) (lent out one two three : List ℕ) (keys : Span) → n < 2 ^ 32 → length lent % 2 ≡ 0 → 0 < length lent / 2 → length lent / 2 ≤ 65536 → Some keys ≡ lent_keys lent → 8 * (4 + 2 * (length lent / 2)) ≤ length out
    → AreWords (n ∷ b ∷ (length lent / 2) ∷ []) → AreWords lent
    → one ≡ put_at (8 * 0) (bytes_of (n ∷ b ∷ (length lent / 2) ∷ [])) out
    → two ≡ put_at (8 * 3) (bytes_of lent) one
    → three ≡ put_at (8 * (3 + 2 * (length lent / 2))) (bytes_of ((sum (take (3 + 2 * (length lent / 2)) (words_of two)) % 2 ^ 64) ∷ [])) two
    → ◌≡◌ {A = Option Written × List ℕ} (Some (record { length = 8 * (4 + 2 * (length lent / 2)); keys = keys }), three) (lent_written n b lent out)
lent_is_written n b lent out one two three keys hn even some few k room a1 a2 e1 e2 e3 =
    let f = file n b (pairs lent) in
    let c : length (pairs lent) ≡ length lent / 2 = length_pairs_half lent in
    let q = lent_keys_some lent keys k in
    let words : file_words (file n b (pairs lent)) ≡ n ∷ b ∷ (length lent / 2) ∷ lent =
    ap (λ j. n ∷ b ∷ j ∷ row_words (pairs lent)) c ∙ ap (λ vs. n ∷ b ∷ (length lent / 2) ∷ vs) (row_words_pairs (length lent / 2) lent (omega arith)) in
    let done : three ≡ put_at 0 (file_bytes (file n b (pairs lent))) out = file_sealed f n b (length lent / 2) lent out one two three words (sym c) room a1 a2 e1 e2 e3 in
    let fit : Fits (file n b (pairs lent)) = record { number = hn; began = a1.1.0; some = omega (arith, c); few = omega (arith, c); all = q.0 } in
    let w : writes (file n b (pairs lent)) (length out) ≡ true = writes_yes f (length out) fit (omega (arith, c)) in
    let l : 8 * (4 + 2 * (length lent / 2)) ≡ length (file_bytes (file n b (pairs lent))) = omega (arith, c, length_file_bytes f) in
    let tell : record { length = 8 * (4 + 2 * (length lent / 2)); keys = keys } ≡ told_of (file n b (pairs lent)) = λ i. record { length = l i; keys = sym q.1 i } in
    let after : three ≡ file_bytes (file n b (pairs lent)) ++ drop (length (file_bytes (file n b (pairs lent)))) out = done ∙ put_front (file_bytes f) out in
    rw (eq-eqb (length lent % 2) 0 even, w, tell, after)
