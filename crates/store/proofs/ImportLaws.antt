-- What reading in leaves of the lent memory.
use Rattle.std.proofs.Common.{◌≡◌, ℕ, zero, suc, ◌+◌, ◌-◌, ◌*◌, ◌^◌, ◌<◌, ◌≤◌, cond, ltb, List, length, take, drop, set, replicate, Some, Ok, Err, Result, sym, refl, ap, ◌∙◌, arith}
use borrow.Rule.Slice.PartMut.{put_mid}
use Rattle.std.proofs.lemmas.List.{length-drop, length-set, length-take-le}
use Rattle.std.proofs.lemmas.Bool.{le-ltb, lt-ltb}
use Rattle.std.proofs.lemmas.Bool.Decides.{nat_tests}
use Rattle.codec.specs.Words.{word_from}
use Rattle.codec.proofs.WordLaws.{length_put_at, put_mid-put_at}
use Rattle.store.specs.declared.header.Header.{Header}
use Rattle.store.specs.declared.unread.Unread.{Unread}
use Rattle.store.specs.declared.unread.Unread.TheVariants.{At, TooSmall}
use Rattle.store.specs.Import.{word_at, header_in, file_end, read_to, file_read, read_on, files_read, entry_end, place_to, place_read, entries_read, Body, body_end, body_entries, body_read, Import, numbers_at, body_told, read_by, read_in}
use Rattle.store.specs.Slots.{slot_size, slots}
use Rattle.store.proofs.Readers.{word_there}
use Rattle.store.proofs.SlotLaws.{slot_inside}

pub read_not : (most at : ℕ) (bs : List ℕ) (i : ℕ) (d fs : List ℕ) (u : Unread) → Err u ≡ file_end most at bs → (Err u, d, fs) ≡ file_read most at bs i d fs
unfolding file_read
read_not most at bs i d fs u e = ap (read_to most at bs i d fs) e

-- a file that is read lies within the bytes, and in a slot
pub end_within : (most at : ℕ) (bs : List ℕ) (end : ℕ) → Ok end ≡ file_end most at bs → (at + 16 ≤ end) × (end ≤ length bs) × (end ≤ at + 16 + slot_size most)
end_within most at bs end e = grind (arith, nat_tests, e)

pub read_done : (most at : ℕ) (bs : List ℕ) (i : ℕ) (d fs : List ℕ) (start end w n k : ℕ) (part : List ℕ) → Ok end ≡ file_end most at bs → start ≡ i * slot_size most → Some w ≡ word_from 0 (drop at bs)
    → n ≡ length (take (end - (at + 16)) (drop (at + 16) bs)) → k ≡ n → part ≡ take (end - (at + 16)) (drop (at + 16) bs)
    → (Ok end, set (set d (2 * i) (w + 1)) (1 + 2 * i) n, put_mid start k fs part) ≡ file_read most at bs i d fs
unfolding file_read
read_done most at bs i d fs start end w n k part e z v l h p =
    let b = end_within most at bs end e in
    let x = word_there at 0 bs w v in
    let word : w ≡ word_at at bs = let y : at + 0 ≡ at = omega arith in x.1 ∙ ap (λ j. word_at j bs) y in
    let q : part ≡ take (end - at - 16) (drop (at + 16) bs) = p ∙ ap (λ j. take j (drop (at + 16) bs)) (omega arith) in
    let same : take (end - (at + 16)) (drop (at + 16) bs) ≡ take (end - at - 16) (drop (at + 16) bs) = ap (λ j. take j (drop (at + 16) bs)) (omega arith) in
    let long : length (take (end - at - 16) (drop (at + 16) bs)) ≡ end - at - 16 = length-take-le (end - at - 16) (drop (at + 16) bs) (omega (arith, b.0, b.1, length-drop (at + 16) bs)) in
    let many : n ≡ end - at - 16 = l ∙ ap length same ∙ long in
    let m : k ≡ length (take (end - at - 16) (drop (at + 16) bs)) = h ∙ many ∙ sym long in
    (λ j. (Ok end, set (set d (2 * i) (word j + 1)) (1 + 2 * i) (many j), (ap (λ y. put_mid y k fs part) z ∙ put_mid-put_at (i * slot_size most) k fs (take (end - at - 16) (drop (at + 16) bs)) part q m) j)) ∙ ap (read_to most at bs i d fs) e

-- a file that was read leaves both slices as long as they were
pub read_keeps : (most at : ℕ) (bs : List ℕ) (i : ℕ) (d fs : List ℕ) (end : ℕ) (d' fs' : List ℕ) → i < slots most (length d) (length fs) → ◌≡◌ {A = Result ℕ Unread × List ℕ × List ℕ} (Ok end, d', fs') (file_read most at bs i d fs) → (end ≤ length bs) × (length d' ≡ length d) × (length fs' ≡ length fs)
unfolding file_read
read_keeps most at bs i d fs end d' fs' h e = kept (file_end most at bs) refl e
  where
    long : (x : ℕ) → Ok x ≡ file_end most at bs → length (take (x - at - 16) (drop (at + 16) bs)) ≡ x - at - 16
    long x w = let n = end_within most at bs x w in length-take-le (x - at - 16) (drop (at + 16) bs) (omega (arith, n.0, n.1, length-drop (at + 16) bs))

    kept : (r : Result ℕ Unread) → r ≡ file_end most at bs → ◌≡◌ {A = Result ℕ Unread × List ℕ × List ℕ} (Ok end, d', fs') (read_to most at bs i d fs r) → (end ≤ length bs) × (length d' ≡ length d) × (length fs' ≡ length fs)
    kept (Ok x) w p =
        let n = end_within most at bs x w in
        let q = slot_inside most (length d) (length fs) i h in
        let told : ◌≡◌ {A = Result ℕ Unread} (Ok end) (Ok x) = ap (λ (t : Result ℕ Unread × List ℕ × List ℕ). t.0) p in
        let same : end ≡ x = cc in (
          omega (arith, same, n.1),
          ap (λ (t : Result ℕ Unread × List ℕ × List ℕ). length t.1) p ∙ length-set (set d (2 * i) (word_at at bs + 1)) (1 + 2 * i) (x - at - 16) ∙ length-set d (2 * i) (word_at at bs + 1),
          ap (λ (t : Result ℕ Unread × List ℕ × List ℕ). length t.2) p ∙ length_put_at (i * slot_size most) (take (x - at - 16) (drop (at + 16) bs)) fs (omega (arith, q.1, n.0, n.2, long x w)),
        )
    kept (Err u) w p = absurd (let told : ◌≡◌ {A = Result ℕ Unread} (Ok end) (Err u) = ap (λ (t : Result ℕ Unread × List ℕ × List ℕ). t.0) p in let z : ◌≡◌ {A = ℕ} 0 1 = cc in omega arith)

-- reading on: so many more from one on, where the first of them is read and the rest behind it
abbrev Reading : Type 0
Reading = Result ℕ Unread × List ℕ × List ℕ

module _ (more : ℕ → Reading) (one : Reading) (rest : ℕ → ℕ → List ℕ → List ℕ → Reading) (next : (n : ℕ) → more (suc n) ≡ read_on one (rest n)) (count i : ℕ) (all : Reading) where
  read_step : (t : Reading) → i < count → t ≡ one → more (count - i) ≡ all → read_on t (rest (count - (i + 1))) ≡ all
  read_step t h e inv = let z : suc (count - (i + 1)) ≡ count - i = omega arith in ap (λ r. read_on r (rest (count - (i + 1)))) e ∙ sym (next (count - (i + 1))) ∙ ap more z ∙ inv

  read_end : count ≤ i → more (count - i) ≡ all → more zero ≡ all
  read_end h inv = let z : 0 ≡ count - i = omega arith in ap more z ∙ inv

-- a file more, and the last of them
module _ (most : ℕ) (bs : List ℕ) (count i at : ℕ) (d fs : List ℕ) (all : Reading) where
  pub files_step : (t : Reading) → i < count → t ≡ file_read most at bs i d fs → files_read most bs (count - i) i at d fs ≡ all → read_on t (λ a x y. files_read most bs (count - (i + 1)) (i + 1) a x y) ≡ all
  unfolding files_read
  files_step = read_step (λ n. files_read most bs n i at d fs) (file_read most at bs i d fs) (λ n a x y. files_read most bs n (i + 1) a x y) (λ n. refl) count i all

  pub files_all : count ≤ i → files_read most bs (count - i) i at d fs ≡ all → (Ok at, d, fs) ≡ all
  unfolding files_read
  files_all = read_end (λ n. files_read most bs n i at d fs) (file_read most at bs i d fs) (λ n a x y. files_read most bs n (i + 1) a x y) (λ n. refl) count i all

pub slot_still : (most i count a b x y : ℕ) → i < count → count ≤ slots most a b → x ≡ a → y ≡ b → i < slots most x y
slot_still most i count a b x y h k e f = rw (e, f) (omega (arith, h, k))

pub place_not : (at : ℕ) (bs : List ℕ) (k used : ℕ) (es log : List ℕ) (u : Unread) → Err u ≡ entry_end at (length log - used) bs → (Err u, es, log) ≡ place_read at bs k used es log
unfolding place_read
place_not at bs k used es log u e = ap (place_to at bs k used es log) e

-- an entry that is read lies within the bytes, and in what is left of the log
pub entry_within : (at left : ℕ) (bs : List ℕ) (end : ℕ) → Ok end ≡ entry_end at left bs → (at + 8 ≤ end) × (end ≤ length bs) × (end ≤ at + 8 + left)
entry_within at left bs end e = grind (arith, nat_tests, e)

entry_long : (at left : ℕ) (bs : List ℕ) (end : ℕ) → Ok end ≡ entry_end at left bs → length (take (end - at - 8) (drop (at + 8) bs)) ≡ end - at - 8
entry_long at left bs end e = let n = entry_within at left bs end e in length-take-le (end - at - 8) (drop (at + 8) bs) (omega (arith, n.0, n.1, length-drop (at + 8) bs))

pub place_done : (at : ℕ) (bs : List ℕ) (k used : ℕ) (es log : List ℕ) (end n m : ℕ) (part : List ℕ) → Ok end ≡ entry_end at (length log - used) bs → n ≡ length (take (end - (at + 8)) (drop (at + 8) bs)) → m ≡ n
    → part ≡ take (end - (at + 8)) (drop (at + 8) bs) → (Ok end, set es k (used + n), put_mid used m log part) ≡ place_read at bs k used es log
unfolding place_read
place_done at bs k used es log end n m part e l h p =
    let same : take (end - (at + 8)) (drop (at + 8) bs) ≡ take (end - at - 8) (drop (at + 8) bs) = ap (λ j. take j (drop (at + 8) bs)) (omega arith) in
    let long = entry_long at (length log - used) bs end e in
    let many : n ≡ end - at - 8 = l ∙ ap length same ∙ long in
    (λ j. (Ok end, set es k (used + many j), put_mid-put_at used m log (take (end - at - 8) (drop (at + 8) bs)) part (p ∙ same) (h ∙ many ∙ sym long) j)) ∙ ap (place_to at bs k used es log) e

-- an entry that was read leaves both slices as long as they were
pub place_keeps : (at : ℕ) (bs : List ℕ) (k used : ℕ) (es log : List ℕ) (end : ℕ) (es' log' : List ℕ) → used ≤ length log → ◌≡◌ {A = Result ℕ Unread × List ℕ × List ℕ} (Ok end, es', log') (place_read at bs k used es log) → (at + 8 ≤ end) × (end ≤ length bs) × (used + (end - at - 8) ≤ length log) × (length es' ≡ length es) × (length log' ≡ length log)
unfolding place_read
place_keeps at bs k used es log end es' log' h e = kept (entry_end at (length log - used) bs) refl e
  where
    kept : (r : Result ℕ Unread) → r ≡ entry_end at (length log - used) bs → ◌≡◌ {A = Result ℕ Unread × List ℕ × List ℕ} (Ok end, es', log') (place_to at bs k used es log r)
        → (at + 8 ≤ end) × (end ≤ length bs) × (used + (end - at - 8) ≤ length log) × (length es' ≡ length es) × (length log' ≡ length log)
    kept (Ok x) w p =
        let n = entry_within at (length log - used) bs x w in
        let told : ◌≡◌ {A = Result ℕ Unread} (Ok end) (Ok x) = ap (λ (t : Reading). t.0) p in
        let same : end ≡ x = cc in (
          omega (arith, same, n.0),
          omega (arith, same, n.1),
          omega (arith, same, n.0, n.2, h),
          ap (λ (t : Reading). length t.1) p ∙ length-set es k (used + (x - at - 8)),
          ap (λ (t : Reading). length t.2) p ∙ length_put_at used (take (x - at - 8) (drop (at + 8) bs)) log (omega (arith, n.0, n.2, h, entry_long at (length log - used) bs x w)),
        )
    kept (Err u) w p = absurd (let told : ◌≡◌ {A = Result ℕ Unread} (Ok end) (Err u) = ap (λ (t : Reading). t.0) p in let z : ◌≡◌ {A = ℕ} 0 1 = cc in omega arith)

-- an entry more, and the last of them
module _ (bs : List ℕ) (count k at used : ℕ) (es log : List ℕ) (all : Reading) where
  pub entries_step : (t : Reading) → k < count → t ≡ place_read at bs k used es log → entries_read bs (count - k) k at used es log ≡ all
      → read_on t (λ a x y. entries_read bs (count - (k + 1)) (k + 1) a (used + (a - at - 8)) x y) ≡ all
  unfolding entries_read
  entries_step = read_step (λ n. entries_read bs n k at used es log) (place_read at bs k used es log) (λ n a x y. entries_read bs n (k + 1) a (used + (a - at - 8)) x y) (λ n. refl) count k all

  pub entries_all : count ≤ k → entries_read bs (count - k) k at used es log ≡ all → (Ok at, es, log) ≡ all
  unfolding entries_read
  entries_all = read_end (λ n. entries_read bs n k at used es log) (place_read at bs k used es log) (λ n a x y. entries_read bs n (k + 1) a (used + (a - at - 8)) x y) (λ n. refl) count k all

-- what is told of a body, by how far its files and its entries were read
pub body_no_files : (most : ℕ) (bs : List ℕ) (held count : ℕ) (d fs es log : List ℕ) (clear : List ℕ) (u : Unread) (d' fs' : List ℕ) → clear ≡ replicate (length d) 0 → ◌≡◌ {A = Result ℕ Unread × List ℕ × List ℕ} (Err u, d', fs') (files_read most bs held 0 56 clear fs) → ◌≡◌ {A = Body} (Err u, d', fs', es, log) (body_read most bs held count d fs es log)
unfolding body_read
body_no_files most bs held count d fs es log clear u d' fs' z e = ap (body_entries bs count es log) (e ∙ ap (λ x. files_read most bs held 0 56 x fs) z)

body_files : (most : ℕ) (bs : List ℕ) (held count : ℕ) (d fs es log : List ℕ) (clear : List ℕ) (at : ℕ) (d' fs' : List ℕ) → clear ≡ replicate (length d) 0 → ◌≡◌ {A = Result ℕ Unread × List ℕ × List ℕ} (Ok at, d', fs') (files_read most bs held 0 56 clear fs) → ◌≡◌ {A = Body} (body_end bs d' fs' (entries_read bs count 0 at 0 es log)) (body_read most bs held count d fs es log)
unfolding body_read
body_files most bs held count d fs es log clear at d' fs' z e = ap (body_entries bs count es log) (e ∙ ap (λ x. files_read most bs held 0 56 x fs) z)

pub body_by : (most : ℕ) (bs : List ℕ) (held count : ℕ) (d fs es log : List ℕ) (clear : List ℕ) (at : ℕ) (d' fs' : List ℕ) (told : Result ℕ Unread × List ℕ × List ℕ) → clear ≡ replicate (length d) 0 → ◌≡◌ {A = Result ℕ Unread × List ℕ × List ℕ} (Ok at, d', fs') (files_read most bs held 0 56 clear fs) → told ≡ entries_read bs count 0 at 0 es log → ◌≡◌ {A = Body} (body_end bs d' fs' told) (body_read most bs held count d fs es log)
body_by most bs held count d fs es log clear at d' fs' told z e t = ap (body_end bs d' fs') t ∙ body_files most bs held count d fs es log clear at d' fs' z e

-- bytes that are left are an error
pub body_longer : (bs d fs : List ℕ) (end : ℕ) (es log : List ℕ) → end < length bs → ◌≡◌ {A = Body} (Err (At end), d, fs, es, log) (body_end bs d fs (Ok end, es, log))
body_longer bs d fs end es log h = ap (λ b. (cond b (Err (At end)) (Ok tt), d, fs, es, log)) (sym (lt-ltb end (length bs) h))

pub body_whole : (bs d fs : List ℕ) (end : ℕ) (es log : List ℕ) → length bs ≤ end → ◌≡◌ {A = Body} (Ok tt, d, fs, es, log) (body_end bs d fs (Ok end, es, log))
body_whole bs d fs end es log h = ap (λ b. (cond b (Err (At end)) (Ok tt), d, fs, es, log)) (sym (le-ltb end (length bs) h))

-- a header that is read is within its bounds
pub header_bounds : (bs : List ℕ) (h : Header) → Ok h ≡ header_in bs → (56 ≤ length bs) × (h.horizon ≤ 4096) × (h.next ≤ 2 ^ 32) × (1 ≤ h.most_rows) × (h.most_rows ≤ 65536) × (h.files ≤ h.slots) × (h.entries ≤ 65536)
header_bounds bs h e = grind (arith, nat_tests, e)

-- what is told of a store, by its header and the memory
pub in_no_header : (bs d fs es log : List ℕ) (u : Unread) → Err u ≡ header_in bs → ◌≡◌ {A = Import} (Err u, d, fs, es, log) (read_in bs d fs es log)
unfolding read_in
in_no_header bs d fs es log u e = ap (read_by bs d fs es log) e

by_header : (bs d fs es log : List ℕ) (h : Header) → Ok h ≡ header_in bs → read_by bs d fs es log (Ok h) ≡ read_in bs d fs es log
unfolding read_in
by_header bs d fs es log h e = ap (read_by bs d fs es log) e

pub in_few_slots : (bs d fs es log : List ℕ) (h : Header) (n : ℕ) → Ok h ≡ header_in bs → n ≡ slots h.most_rows (length d) (length fs) → n < h.slots → ◌≡◌ {A = Import} (Err TooSmall, d, fs, es, log) (read_in bs d fs es log)
in_few_slots bs d fs es log h n e s k =
    ap (λ b. cond b (Err TooSmall, d, fs, es, log) (cond (ltb (length es) h.entries) (Err TooSmall, d, fs, es, log) (body_told (numbers_at h) (body_read h.most_rows bs h.files h.entries d fs es log)))) (sym (lt-ltb n h.slots k) ∙ ap (λ m. ltb m h.slots) s)
    ∙ by_header bs d fs es log h e

by_slots : (bs d fs es log : List ℕ) (h : Header) (n : ℕ) → Ok h ≡ header_in bs → n ≡ slots h.most_rows (length d) (length fs) → h.slots ≤ n → cond (ltb (length es) h.entries) (Err TooSmall, d, fs, es, log) (body_told (numbers_at h) (body_read h.most_rows bs h.files h.entries d fs es log)) ≡ read_in bs d fs es log
by_slots bs d fs es log h n e s k =
    ap (λ b. cond b (Err TooSmall, d, fs, es, log) (cond (ltb (length es) h.entries) (Err TooSmall, d, fs, es, log) (body_told (numbers_at h) (body_read h.most_rows bs h.files h.entries d fs es log)))) (sym (le-ltb n h.slots k) ∙ ap (λ m. ltb m h.slots) s)
    ∙ by_header bs d fs es log h e

pub in_few_places : (bs d fs es log : List ℕ) (h : Header) (n : ℕ) → Ok h ≡ header_in bs → n ≡ slots h.most_rows (length d) (length fs) → h.slots ≤ n → length es < h.entries → ◌≡◌ {A = Import} (Err TooSmall, d, fs, es, log) (read_in bs d fs es log)
in_few_places bs d fs es log h n e s k p =
    ap (λ b. cond b (Err TooSmall, d, fs, es, log) (body_told (numbers_at h) (body_read h.most_rows bs h.files h.entries d fs es log))) (sym (lt-ltb (length es) h.entries p))
    ∙ by_slots bs d fs es log h n e s k

pub in_body : (bs d fs es log : List ℕ) (h : Header) (n : ℕ) (b : Body) → Ok h ≡ header_in bs → n ≡ slots h.most_rows (length d) (length fs) → h.slots ≤ n → h.entries ≤ length es → b ≡ body_read h.most_rows bs h.files h.entries d fs es log → body_told (numbers_at h) b ≡ read_in bs d fs es log
in_body bs d fs es log h n b e s k p q =
    ap (body_told (numbers_at h)) q
    ∙ ap (λ t. cond t (Err TooSmall, d, fs, es, log) (body_told (numbers_at h) (body_read h.most_rows bs h.files h.entries d fs es log))) (sym (le-ltb (length es) h.entries p))
    ∙ by_slots bs d fs es log h n e s k
