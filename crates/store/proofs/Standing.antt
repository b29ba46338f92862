-- What is read of bytes from a place on, where what stands there is known.
use Rattle.std.proofs.Common.{◌≡◌, ℕ, ◌+◌, ◌-◌, ◌*◌, ◌^◌, ◌<◌, ◌≤◌, List, [], ◌∷◌, ◌++◌, length, take, drop, set, Ok, sum_by, sym, refl, ap, ◌∙◌, arith}
use Rattle.std.specs.List.{flat_map, AllByRecursion}
use Rattle.std.proofs.lemmas.List.{append_assoc, drop_at, drop-drop, length-append, length-drop, take_at}
use Rattle.std.proofs.lemmas.List.Sums.{sum_by-cons}
use Rattle.std.proofs.lemmas.Bool.Decides.{nat_tests}
use Rattle.codec.specs.Words.{le, put_at, bytes_of}
use Rattle.codec.proofs.WordLaws.{bytes_of_one, le_bytes_le, length_bytes_of, length_put_at}
use Rattle.store.specs.Export.{counted, numbered}
use Rattle.store.specs.Import.{word_at, file_end, read_to, file_read, read_on, files_read, entry_end, place_to, place_read, entries_read}
use Rattle.store.specs.Slots.{slot_size}

module _ (bs : List ℕ) (at : ℕ) (x y : List ℕ) (e : drop at bs ≡ x ++ y) where
  pub stands_behind : drop (at + length x) bs ≡ y
  stands_behind = sym (drop-drop (length x) at bs) ∙ ap (drop (length x)) e ∙ drop_at x y (length x) refl

  pub stands_here : take (length x) (drop at bs) ≡ x
  stands_here = ap (take (length x)) e ∙ take_at x y (length x) refl

  pub stands_long : length bs - at ≡ length x + length y
  stands_long = sym (length-drop at bs) ∙ ap length e ∙ length-append x y

-- a number
pub word_stands : (bs : List ℕ) (at w : ℕ) (y : List ℕ) → w < 2 ^ 64 → drop at bs ≡ bytes_of (w ∷ []) ++ y → (word_at at bs ≡ w) × (drop (at + 8) bs ≡ y)
word_stands bs at w y h e =
    let n : length (bytes_of (w ∷ [])) ≡ 8 = length_bytes_of (w ∷ []) in (
      ap le (ap (λ k. take k (drop at bs)) (sym n) ∙ stands_here bs at (bytes_of (w ∷ [])) y e ∙ bytes_of_one w) ∙ le_bytes_le 8 w h,
      ap (λ k. drop (at + k) bs) (sym n) ∙ stands_behind bs at (bytes_of (w ∷ [])) y e,
    )

pub length_counted : (c : List ℕ) → length (counted c) ≡ 8 + length c
length_counted c = length-append (bytes_of (length c ∷ [])) c ∙ ap (λ n. n + length c) (length_bytes_of (length c ∷ []))

length_numbered : (f : ℕ × List ℕ) → length (numbered f) ≡ 16 + length f.1
length_numbered f = length-append (bytes_of (f.0 ∷ [])) (counted f.1) ∙ omega (arith, length_bytes_of (f.0 ∷ []), length_counted f.1)

-- bytes behind their count
module _ (bs : List ℕ) (at : ℕ) (c rest : List ℕ) (few : length c < 2 ^ 64) (e : drop at bs ≡ counted c ++ rest) where
  counted_parts : (word_at at bs ≡ length c) × (drop (at + 8) bs ≡ c ++ rest)
  counted_parts = word_stands bs at (length c) (c ++ rest) few (e ∙ append_assoc (bytes_of (length c ∷ [])) c rest)

  counted_long : length bs - at ≡ 8 + length c + length rest
  counted_long = stands_long bs at (counted c) rest e ∙ ap (λ n. n + length rest) (length_counted c)

  counted_here : (n : ℕ) → n ≡ length c → take n (drop (at + 8) bs) ≡ c
  counted_here n h = ap (λ k. take k (drop (at + 8) bs)) h ∙ stands_here bs (at + 8) c rest counted_parts.1

  -- an entry
  entry_ends : (left : ℕ) → length c ≤ left → entry_end at left bs ≡ Ok (at + 8 + length c)
  entry_ends left h =
      let p : word_at at bs ≡ length c = counted_parts.0 in
      let q : length bs - at ≡ 8 + length c + length rest = counted_long in
      grind (arith, nat_tests)

  pub place_stands : (k used : ℕ) (es log : List ℕ) → used + length c ≤ length log → place_read at bs k used es log ≡ (Ok (at + 8 + length c), set es k (used + length c), put_at used c log)
  unfolding place_read
  place_stands k used es log h =
      let z : at + 8 + length c - at - 8 ≡ length c = omega arith in
      let w : take (at + 8 + length c - at - 8) (drop (at + 8) bs) ≡ c = counted_here (at + 8 + length c - at - 8) z in
      ap (place_to at bs k used es log) (entry_ends (length log - used) (omega arith))
      ∙ (λ j. (Ok (at + 8 + length c), set es k (used + z j), put_at used (w j) log))

-- a file
module _ (most : ℕ) (bs : List ℕ) (at n : ℕ) (c rest : List ℕ) (low : n < 2 ^ 64 - 1) (few : length c < 2 ^ 64) (room : length c ≤ slot_size most) (e : drop at bs ≡ numbered (n, c) ++ rest) where
  number_parts : (word_at at bs ≡ n) × (drop (at + 8) bs ≡ counted c ++ rest)
  number_parts = word_stands bs at n (counted c ++ rest) (omega arith) (e ∙ append_assoc (bytes_of (n ∷ [])) (counted c) rest)

  file_ends : file_end most at bs ≡ Ok (at + 16 + length c)
  file_ends =
      let p : word_at at bs ≡ n = number_parts.0 in
      let q : word_at (at + 8) bs ≡ length c = (counted_parts bs (at + 8) c rest few number_parts.1).0 in
      let r : length bs - (at + 8) ≡ 8 + length c + length rest = counted_long bs (at + 8) c rest few number_parts.1 in
      grind (arith, nat_tests)

  pub file_stands : (i : ℕ) (d fs : List ℕ) → file_read most at bs i d fs ≡ (Ok (at + 16 + length c), set (set d (2 * i) (n + 1)) (1 + 2 * i) (length c), put_at (i * slot_size most) c fs)
  unfolding file_read
  file_stands i d fs =
      let p : word_at at bs ≡ n = number_parts.0 in
      let z : at + 16 + length c - at - 16 ≡ length c = omega arith in
      let w : take (at + 16 + length c - at - 16) (drop (at + 16) bs) ≡ c =
      ap (λ k. take (at + 16 + length c - at - 16) (drop k bs)) (omega arith) ∙ counted_here bs (at + 8) c rest few number_parts.1 (at + 16 + length c - at - 16) z in
      ap (read_to most at bs i d fs) file_ends
      ∙ (λ j. (Ok (at + 16 + length c), set (set d (2 * i) (p j + 1)) (1 + 2 * i) (z j), put_at (i * slot_size most) (w j) fs))

-- the directory and the file bytes with files in the slots from one on
abbrev pub listed : ℕ → List (ℕ × List ℕ) → List ℕ → List ℕ
listed i [] d = d
listed i (f ∷ xs) d = listed (i + 1) xs (set (set d (2 * i) (f.0 + 1)) (1 + 2 * i) (length f.1))

abbrev pub laid : ℕ → ℕ → List (ℕ × List ℕ) → List ℕ → List ℕ
laid most i [] fs = fs
laid most i (f ∷ xs) fs = laid most (i + 1) xs (put_at (i * slot_size most) f.1 fs)

-- what can be read as a file of a slot
abbrev pub Fits : ℕ → ℕ × List ℕ → Type 0
Fits most f = (f.0 < 2 ^ 64 - 1) × (length f.1 < 2 ^ 64) × (length f.1 ≤ slot_size most)

pub files_stand : (most : ℕ) (bs : List ℕ) (xs : List (ℕ × List ℕ)) (rest : List ℕ) (i at : ℕ) (d fs : List ℕ) → AllByRecursion (Fits most) xs → drop at bs ≡ flat_map numbered xs ++ rest
    → files_read most bs (length xs) i at d fs ≡ (Ok (at + length (flat_map numbered xs)), listed i xs d, laid most i xs fs)
unfolding files_read
files_stand most bs [] rest i at d fs a e = let z : at ≡ at + 0 = omega arith in ap (λ k. (Ok k, d, fs)) z
files_stand most bs (f ∷ xs) rest i at d fs a e =
    let here : drop at bs ≡ numbered f ++ (flat_map numbered xs ++ rest) = e ∙ append_assoc (numbered f) (flat_map numbered xs) rest in
    let n : length (numbered f) ≡ 16 + length f.1 = length_numbered f in
    let next : drop (at + 16 + length f.1) bs ≡ flat_map numbered xs ++ rest = ap (λ k. drop k bs) (omega arith) ∙ stands_behind bs at (numbered f) (flat_map numbered xs ++ rest) here in
    let d' = set (set d (2 * i) (f.0 + 1)) (1 + 2 * i) (length f.1) in
    let fs' = put_at (i * slot_size most) f.1 fs in
    let end : at + 16 + length f.1 + length (flat_map numbered xs) ≡ at + length (numbered f ++ flat_map numbered xs) = omega (arith, length-append (numbered f) (flat_map numbered xs)) in
    ap (λ t. read_on t (λ k x y. files_read most bs (length xs) (i + 1) k x y)) (file_stands most bs at f.0 f.1 (flat_map numbered xs ++ rest) a.0.0 a.0.1 a.0.2 here i d fs)
    ∙ files_stand most bs xs rest (i + 1) (at + 16 + length f.1) d' fs' a.1 next
    ∙ ap (λ k. (Ok k, listed (i + 1) xs d', laid most (i + 1) xs fs')) end

-- the ends and the log with entries at the places from one on, behind the bytes that are used
abbrev pub ended : ℕ → ℕ → List (List ℕ) → List ℕ → List ℕ
ended k used [] es = es
ended k used (c ∷ cs) es = ended (k + 1) (used + length c) cs (set es k (used + length c))

abbrev pub logged : ℕ → List (List ℕ) → List ℕ → List ℕ
logged used [] log = log
logged used (c ∷ cs) log = logged (used + length c) cs (put_at used c log)

pub entries_stand : (bs : List ℕ) (cs : List (List ℕ)) (rest : List ℕ) (k at used : ℕ) (es log : List ℕ) → AllByRecursion (λ c. length c < 2 ^ 64) cs → used + sum_by length cs ≤ length log → drop at bs ≡ flat_map counted cs ++ rest
    → entries_read bs (length cs) k at used es log ≡ (Ok (at + length (flat_map counted cs)), ended k used cs es, logged used cs log)
unfolding entries_read
entries_stand bs [] rest k at used es log a h e = let z : at ≡ at + 0 = omega arith in ap (λ j. (Ok j, es, log)) z
entries_stand bs (c ∷ cs) rest k at used es log a h e =
    let here : drop at bs ≡ counted c ++ (flat_map counted cs ++ rest) = e ∙ append_assoc (counted c) (flat_map counted cs) rest in
    let n : length (counted c) ≡ 8 + length c = length_counted c in
    let next : drop (at + 8 + length c) bs ≡ flat_map counted cs ++ rest = ap (λ j. drop j bs) (omega arith) ∙ stands_behind bs at (counted c) (flat_map counted cs ++ rest) here in
    let room : used + length c + sum_by length cs ≤ length log = omega (arith, sum_by-cons length c cs) in
    let long : length (put_at used c log) ≡ length log = length_put_at used c log (omega arith) in
    let z : at + 8 + length c - at - 8 ≡ length c = omega arith in
    let es' = set es k (used + length c) in
    let log' = put_at used c log in
    let end : at + 8 + length c + length (flat_map counted cs) ≡ at + length (counted c ++ flat_map counted cs) = omega (arith, length-append (counted c) (flat_map counted cs)) in
    ap (λ t. read_on t (λ j x y. entries_read bs (length cs) (k + 1) j (used + (j - at - 8)) x y)) (place_stands bs at c (flat_map counted cs ++ rest) a.0 here k used es log (omega arith))
    ∙ ap (λ m. entries_read bs (length cs) (k + 1) (at + 8 + length c) (used + m) es' log') z
    ∙ entries_stand bs cs rest (k + 1) (at + 8 + length c) (used + length c) es' log' a.1 (omega arith) next
    ∙ ap (λ j. (Ok j, ended (k + 1) (used + length c) cs es', logged (used + length c) cs log')) end
