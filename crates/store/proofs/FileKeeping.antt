-- What putting and deleting files leaves of the others.
use Rattle.std.proofs.Common.{◌≡◌, ℕ, zero, suc, ◌+◌, ◌*◌, ◌^◌, ◌<◌, ◌≤◌, Bool, true, false, cond, eqb, ltb, leb, ◌⊎◌, List, [], length, get_or, take, drop, set, Some, None, Ok, Err, Option, Result, sym, refl, ap, ◌∙◌, inl, inr, mul-le-mul_right, arith}
use Rattle.std.specs.Option.{option_map}
use Rattle.std.proofs.lemmas.List.{get_or-set_same, get_or-set_other, length-set}
use Rattle.std.proofs.lemmas.Bool.{ne_eqb, le-leb, leb-true, cases_eq, cases_lt}
use Rattle.std.proofs.lemmas.Bool.Decides.{nat_tests}
use Rattle.rows.specs.Checks.{some_else}
use Rattle.codec.specs.Files.{File, head_of, file_fits, file_bytes, file_in}
use Rattle.codec.specs.declared.entry.Added.{Added}
use Rattle.codec.specs.declared.rewrite.Part.{Part}
use Rattle.codec.specs.declared.write.Written.{Written}
use Rattle.codec.specs.Rewrites.{part_in}
use Rattle.codec.specs.Words.{put_at}
use Rattle.codec.proofs.FileLaws.{files_come_back}
use Rattle.codec.proofs.PartLaws.{read_apart}
use Rattle.codec.proofs.WordLaws.{length_put_at, read_put}
use Rattle.store.specs.declared.files.Stored.{Stored}
use Rattle.store.specs.declared.unput.Unput.{Unput}
use Rattle.store.specs.declared.unput.Unput.TheVariants.{NumberTaken, OutOfBounds}
use Rattle.store.specs.Putting.{Files, no_room, next_slot, in_slot, put_by, slot_of}
use Rattle.store.specs.StoreLaws.{file_under, IsUnder}
use Rattle.store.specs.Slots.{slot_size, slots, mark_at, length_at, slot_bytes, stored_at, stored, slot_with, freed}
use Rattle.store.proofs.SlotLaws.{length_freed, freed_above, slot_inside, stored_nowhere, stored_too_long, stored_here, stored_in}
use Rattle.store.proofs.PutLaws.{next_slot_is}
use Rattle.store.proofs.Searches.{slot_same, slot_none, slot_each, slot_bears, slot_only}

-- the file of a slot whose length and bytes are the same
pub stored_at_same : (most : ℕ) (d c fs gs : List ℕ) (n j : ℕ) → length_at d j ≡ length_at c j → slot_bytes most d fs j ≡ slot_bytes most c gs j → stored_at most d fs n j ≡ stored_at most c gs n j
stored_at_same most d c fs gs n j e b =
    let found : ℕ → File → Option Stored = λ l f. cond {A = Option Stored} (eqb f.number n) (Some (record { part = record { start = j * slot_size most; length = l }; head = head_of f })) None in
    ap (λ bs. some_else (file_in bs) None (found (length_at d j))) b ∙ ap (λ l. some_else (file_in (slot_bytes most c gs j)) None (found l)) e

-- the file under a number that the same slots have, with the same file in each of them
module _ (most : ℕ) (d c fs gs : List ℕ) (n : ℕ) (ld : length d ≡ length c) (lf : length fs ≡ length gs) where
  pub stored_same : ((j : ℕ) → j < slots most (length c) (length gs) → eqb (mark_at d j) (n + 1) ≡ eqb (mark_at c j) (n + 1))
      → ((j : ℕ) → mark_at c j ≡ n + 1 → stored_at most d fs n j ≡ stored_at most c gs n j)
      → stored most d fs n ≡ stored most c gs n
  unfolding stored
  stored_same marks files =
      ap (λ k. some_else (slot_with d (slots most k (length fs)) (n + 1)) None (stored_at most d fs n)) ld
      ∙ ap (λ k. some_else (slot_with d (slots most (length c) k) (n + 1)) None (stored_at most d fs n)) lf
      ∙ ap (λ o. some_else o None (stored_at most d fs n)) (slot_same d c (slots most (length c) (length gs)) (n + 1) marks)
      ∙ by (slot_with c (slots most (length c) (length gs)) (n + 1)) refl
    where
      by : (o : Option ℕ) → slot_with c (slots most (length c) (length gs)) (n + 1) ≡ o → some_else o None (stored_at most d fs n) ≡ some_else o None (stored_at most c gs n)
      by None e = refl
      by (Some j) e = files j (slot_bears c (slots most (length c) (length gs)) (n + 1) j (sym e))

-- slots freed: those with the mark have none then, and the others are as they were
pub freed_mark : (d : List ℕ) (x n j : ℕ) → 2 * n ≤ length d → j < n → mark_at (freed d x n) j ≡ cond (eqb (mark_at d j) x) 0 (mark_at d j)
freed_mark d x zero j h l = absurd (omega arith)
freed_mark d x (suc n) j h l = by (eqb (mark_at d n) x) refl (cases_eq j n) (freed_mark d x n j (omega arith))
  where
    by : (b : Bool) → eqb (mark_at d n) x ≡ b → (j ≡ n) ⊎ (j ≡ n → ⊥) → (j < n → mark_at (freed d x n) j ≡ cond (eqb (mark_at d j) x) 0 (mark_at d j))
        → mark_at (cond b (set (freed d x n) (2 * n) 0) (freed d x n)) j ≡ cond (eqb (mark_at d j) x) 0 (mark_at d j)
    by true e (inl k) ih =
        ap (λ m. get_or (set (freed d x n) (2 * n) 0) (2 * m) 0) k ∙ get_or-set_same (freed d x n) (2 * n) 0 0 (omega (arith, length_freed d x n))
        ∙ sym (ap (λ t. cond t 0 (mark_at d j)) (ap (λ m. eqb (mark_at d m) x) k ∙ e))
    by false e (inl k) ih =
        freed_above d x n (2 * j) (omega arith) ∙ sym (ap (λ t. cond t 0 (mark_at d j)) (ap (λ m. eqb (mark_at d m) x) k ∙ e))
    by true e (inr k) ih = get_or-set_other (freed d x n) (2 * n) (2 * j) 0 0 (omega arith) ∙ ih (omega arith)
    by false e (inr k) ih = ih (omega arith)

pub freed_length : (d : List ℕ) (x n j : ℕ) → length_at (freed d x n) j ≡ length_at d j
freed_length d x zero j = refl
freed_length d x (suc n) j = by (eqb (mark_at d n) x) (freed_length d x n j)
  where
    by : (b : Bool) → length_at (freed d x n) j ≡ length_at d j → length_at (cond b (set (freed d x n) (2 * n) 0) (freed d x n)) j ≡ length_at d j
    by true ih = get_or-set_other (freed d x n) (2 * n) (1 + 2 * j) 0 0 (omega arith) ∙ ih
    by false ih = ih

module _ (most : ℕ) (d fs : List ℕ) (n : ℕ) where
  abbrev many : ℕ
  many = slots most (length d) (length fs)

  abbrev after : List ℕ
  after = freed d (n + 1) many

  -- what is deleted is gone
  pub deleted_gone : stored most after fs n ≡ None
  deleted_gone =
      let k = length_freed d (n + 1) many in
      let marks : (j : ℕ) → j < slots most (length d) (length fs) → mark_at (freed d (n + 1) (slots most (length d) (length fs))) j ≡ n + 1 → ⊥ = λ j l e.
      let m = freed_mark d (n + 1) many j (omega arith) l in absurd (grind (arith, nat_tests)) in
      sym (stored_nowhere most after fs n many (ap (λ k. slots most k (length fs)) (sym k)) (sym (slot_none after many (n + 1) marks)))

  -- and no other
  pub deleted_other : (m : ℕ) → (m ≡ n → ⊥) → stored most after fs m ≡ stored most d fs m
  deleted_other m ne =
      stored_same most after d fs fs m (length_freed d (n + 1) many) refl
      (λ j l. let e = freed_mark d (n + 1) many j (omega arith) l in grind (arith, nat_tests))
      (λ j _. stored_at_same most after d fs fs m j (freed_length d (n + 1) many j)
      (ap (λ l. cond (leb l (slot_size most)) (take l (drop (j * slot_size most) fs)) []) (freed_length d (n + 1) many j)))

-- where a file lies that is under a number
pub stored_where : (most : ℕ) (d fs : List ℕ) (n : ℕ) (x : Stored) → stored most d fs n ≡ Some x
    → (j : ℕ) × (mark_at d j ≡ n + 1) × (length_at d j ≤ slot_size most) × (x.part ≡ record { start = j * slot_size most; length = length_at d j })
unfolding stored
stored_where most d fs n x e = by (slot_with d (slots most (length d) (length fs)) (n + 1)) refl e
  where
    part : (j : ℕ) (o : Option File)
        → some_else o None (λ f. cond {A = Option Stored} (eqb f.number n) (Some (record { part = record { start = j * slot_size most; length = length_at d j }; head = head_of f })) None) ≡ Some x
        → x.part ≡ record { start = j * slot_size most; length = length_at d j }
    part j None q = absurd (let z : ◌≡◌ {A = ℕ} 0 1 = cc in omega arith)
    part j (Some f) q = one (eqb f.number n) q
      where
        one : (b : Bool) → cond {A = Option Stored} b (Some (record { part = record { start = j * slot_size most; length = length_at d j }; head = head_of f })) None ≡ Some x → x.part ≡ record { start = j * slot_size most; length = length_at d j }
        one true r = let k : x ≡ record { part = record { start = j * slot_size most; length = length_at d j }; head = head_of f } = cc in ap (λ (y : Stored). y.part) k
        one false r = absurd (let z : ◌≡◌ {A = ℕ} 0 1 = cc in omega arith)

    long : (j : ℕ) → stored_at most d fs n j ≡ Some x → (slot_size most < length_at d j) ⊎ (length_at d j ≤ slot_size most) → length_at d j ≤ slot_size most
    long j q (inl h) = absurd (let y : None ≡ stored_at most d fs n j = stored_too_long most d fs n j h in let z : ◌≡◌ {A = ℕ} 0 1 = cc in omega arith)
    long j q (inr h) = h

    by : (o : Option ℕ) → slot_with d (slots most (length d) (length fs)) (n + 1) ≡ o → some_else o None (stored_at most d fs n) ≡ Some x
        → (j : ℕ) × (mark_at d j ≡ n + 1) × (length_at d j ≤ slot_size most) × (x.part ≡ record { start = j * slot_size most; length = length_at d j })
    by None p q = absurd (let z : ◌≡◌ {A = ℕ} 0 1 = cc in omega arith)
    by (Some j) p q =
        (j, slot_bears d (slots most (length d) (length fs)) (n + 1) j (sym p), long j q (cases_lt (slot_size most) (length_at d j)), part j (file_in (slot_bytes most d fs j)) q)

-- slots lie apart
slots_apart : (size i j : ℕ) → (j ≡ i → ⊥) → (j * size + size ≤ i * size) ⊎ (i * size + size ≤ j * size)
slots_apart size i j ne = by (cases_lt j i)
  where
    by : (j < i) ⊎ (i ≤ j) → (j * size + size ≤ i * size) ⊎ (i * size + size ≤ j * size)
    by (inl h) = let l : j + 1 ≤ i = omega arith in inl (omega (arith, mul-le-mul_right size l))
    by (inr h) = let l : i + 1 ≤ j = omega arith in inr (omega (arith, mul-le-mul_right size l))

-- a slot that a number and a length are written to
module _ (d : List ℕ) (i x l : ℕ) where
  abbrev marked : List ℕ
  marked = set (set d (2 * i) x) (1 + 2 * i) l

  pub length_marked : length marked ≡ length d
  length_marked = length-set (set d (2 * i) x) (1 + 2 * i) l ∙ length-set d (2 * i) x

  pub marked_here : 2 * i + 2 ≤ length d → (mark_at marked i ≡ x) × (length_at marked i ≡ l)
  marked_here h = (
    get_or-set_other (set d (2 * i) x) (1 + 2 * i) (2 * i) l 0 (omega arith) ∙ get_or-set_same d (2 * i) x 0 (omega arith),
    get_or-set_same (set d (2 * i) x) (1 + 2 * i) l 0 (omega (arith, length-set d (2 * i) x)),
  )

  pub marked_other : (j : ℕ) → (j ≡ i → ⊥) → (mark_at marked j ≡ mark_at d j) × (length_at marked j ≡ length_at d j)
  marked_other j ne = (
    get_or-set_other (set d (2 * i) x) (1 + 2 * i) (2 * j) l 0 (omega arith) ∙ get_or-set_other d (2 * i) (2 * j) x 0 (omega arith),
    get_or-set_other (set d (2 * i) x) (1 + 2 * i) (1 + 2 * j) l 0 (omega arith) ∙ get_or-set_other d (2 * i) (1 + 2 * j) x 0 (omega arith),
  )

-- a slot that bytes are written to, with a mark and their length
module _ (most : ℕ) (d fs : List ℕ) (i x : ℕ) (bs : List ℕ) (inside : i < slots most (length d) (length fs)) (room : length bs ≤ slot_size most) where
  abbrev overwritten : List ℕ
  overwritten = put_at (i * slot_size most) bs fs

  pub length_overwritten : length overwritten ≡ length fs
  length_overwritten = let p = slot_inside most (length d) (length fs) i inside in length_put_at (i * slot_size most) bs fs (omega (arith, p.1, room))

  -- a part of another slot is as it was
  pub part_kept : (j n : ℕ) → (j ≡ i → ⊥) → n ≤ slot_size most → take n (drop (j * slot_size most) overwritten) ≡ take n (drop (j * slot_size most) fs)
  part_kept j n ne l =
      let p = slot_inside most (length d) (length fs) i inside in
      read_apart (j * slot_size most) n (i * slot_size most) (slot_size most) (i * slot_size most) bs fs (by (slots_apart (slot_size most) i j ne)) (omega arith) (omega (arith, room)) (omega (arith, p.1))
    where
      by : (j * slot_size most + slot_size most ≤ i * slot_size most) ⊎ (i * slot_size most + slot_size most ≤ j * slot_size most)
          → (j * slot_size most + n ≤ i * slot_size most) ⊎ (i * slot_size most + slot_size most ≤ j * slot_size most)
      by (inl q) = inl (omega arith)
      by (inr q) = inr q

  pub slot_kept : (j : ℕ) → (j ≡ i → ⊥) → slot_bytes most (marked d i x (length bs)) overwritten j ≡ slot_bytes most d fs j
  slot_kept j ne =
      ap (λ l. cond (leb l (slot_size most)) (take l (drop (j * slot_size most) overwritten)) []) (marked_other d i x (length bs) j ne).1
      ∙ by (leb (length_at d j) (slot_size most)) refl
    where
      by : (b : Bool) → leb (length_at d j) (slot_size most) ≡ b
          → cond b (take (length_at d j) (drop (j * slot_size most) overwritten)) [] ≡ cond b (take (length_at d j) (drop (j * slot_size most) fs)) []
      by true e = part_kept j (length_at d j) ne (leb-true _ _ e)
      by false e = refl

  -- and the bytes stand in theirs
  pub slot_new : slot_bytes most (marked d i x (length bs)) overwritten i ≡ bs
  slot_new =
      let p = slot_inside most (length d) (length fs) i inside in
      ap (λ l. cond (leb l (slot_size most)) (take l (drop (i * slot_size most) overwritten)) []) (marked_here d i x (length bs) p.0).1
      ∙ ap (λ b. cond b (take (length bs) (drop (i * slot_size most) overwritten)) []) (le-leb (length bs) (slot_size most) room)
      ∙ read_put (i * slot_size most) bs fs (omega (arith, p.1))

-- what is known of a slot that a file was put into
pub record Filled (s : Files) (f : File) (i : ℕ) : Type 0 where
  pub inside : i < slots s.most (length s.directory) (length s.bytes)
  pub free : mark_at s.directory i ≡ 0
  pub new : (j : ℕ) → j < slots s.most (length s.directory) (length s.bytes) → mark_at s.directory j ≡ s.next + 1 → ⊥
  pub fits : file_fits f ≡ true
  pub number : f.number ≡ s.next
  pub room : length (file_bytes f) ≤ slot_size s.most

abbrev pub filled : Files → File → ℕ → Files
filled s f i =
    record {
      most = s.most;
      next = s.next + 1;
      directory = set (set s.directory (2 * i) (s.next + 1)) (1 + 2 * i) (length (file_bytes f));
      bytes = put_at (i * slot_size s.most) (file_bytes f) s.bytes;
    }

module _ (s : Files) (f : File) (i : ℕ) (h : Filled s f i) where
  abbrev written : List ℕ
  written = put_at (i * slot_size s.most) (file_bytes f) s.bytes

  abbrev listed : List ℕ
  listed = set (set s.directory (2 * i) (s.next + 1)) (1 + 2 * i) (length (file_bytes f))

  length_listed : length listed ≡ length s.directory
  length_listed = length_marked s.directory i (s.next + 1) (length (file_bytes f))

  length_written : length written ≡ length s.bytes
  length_written = length_overwritten s.most s.directory s.bytes i (s.next + 1) (file_bytes f) h.inside h.room

  -- the file is found under its number
  pub filled_found : IsUnder (filled s f i) s.next f
  filled_found =
      let p = slot_inside s.most (length s.directory) (length s.bytes) i h.inside in
      let m = marked_here s.directory i (s.next + 1) (length (file_bytes f)) p.0 in
      let many = slots s.most (length s.directory) (length s.bytes) in
      let put : take (length (file_bytes f)) (drop (i * slot_size s.most) written) ≡ file_bytes f = read_put (i * slot_size s.most) (file_bytes f) s.bytes (omega (arith, p.1)) in
      let bs : take (length_at listed i) (drop (i * slot_size s.most) written) ≡ file_bytes f = ap (λ l. take l (drop (i * slot_size s.most) written)) m.1 ∙ put in
      let held : file_bytes f ≡ slot_bytes s.most listed written i = sym (ap (λ b. cond b (take (length_at listed i) (drop (i * slot_size s.most) written)) []) (le-leb (length_at listed i) (slot_size s.most) (omega (arith, m.1, h.room))) ∙ bs) in
      let part : Part = record { start = i * slot_size s.most; length = length (file_bytes f) } in
      let there : part ≡ record { start = i * slot_size s.most; length = length_at listed i } = λ k. record { start = i * slot_size s.most; length = sym m.1 k } in
      let only : slot_with listed (slots s.most (length s.directory) (length s.bytes)) (s.next + 1) ≡ Some i =
      slot_only listed many (s.next + 1) i h.inside m.0 (λ j l ne e. h.new j l (sym (marked_other s.directory i (s.next + 1) (length (file_bytes f)) j ne).0 ∙ e)) in
      let long : slots s.most (length s.directory) (length s.bytes) ≡ slots s.most (length listed) (length written) =
      ap (λ k. slots s.most k (length s.bytes)) (sym length_listed) ∙ ap (slots s.most (length listed)) (sym length_written) in
      let back : file_in (file_bytes f) ≡ Some f = files_come_back f h.fits in
      let here = stored_here s.most listed written s.next i (file_bytes f) held (head_of f) part (sym (ap (option_map head_of) back)) h.number there in
      (part, sym (here ∙ stored_in s.most listed written s.next many i long (sym only)), put, ap file_in put ∙ back)

  -- what other numbers have is as it was
  pub filled_other : (n : ℕ) → (n ≡ s.next → ⊥) → file_under (filled s f i) n ≡ file_under s n
  filled_other n ne =
      stored_same s.most listed s.directory written s.bytes n length_listed length_written
      (λ j l. by j (cases_eq j i)) (λ j e. let k : j ≡ i → ⊥ = λ q. let z : mark_at s.directory j ≡ 0 = ap (mark_at s.directory) q ∙ h.free in omega (arith, z, e) in
      stored_at_same s.most listed s.directory written s.bytes n j (marked_other s.directory i (s.next + 1) (length (file_bytes f)) j k).1
      (slot_kept s.most s.directory s.bytes i (s.next + 1) (file_bytes f) h.inside h.room j k))
    where
      by : (j : ℕ) → (j ≡ i) ⊎ (j ≡ i → ⊥) → eqb (mark_at listed j) (n + 1) ≡ eqb (mark_at s.directory j) (n + 1)
      by j (inl k) =
          let p = slot_inside s.most (length s.directory) (length s.bytes) i h.inside in
          let a : mark_at listed j ≡ s.next + 1 = ap (mark_at listed) k ∙ (marked_here s.directory i (s.next + 1) (length (file_bytes f)) p.0).0 in
          let b : mark_at s.directory j ≡ 0 = ap (mark_at s.directory) k ∙ h.free in
          ne_eqb (mark_at listed j) (n + 1) (λ q. ne (omega (arith, a, q))) ∙ sym (ne_eqb (mark_at s.directory j) (n + 1) (λ q. omega (arith, b, q)))
      by j (inr k) = ap (λ m. eqb m (n + 1)) (marked_other s.directory i (s.next + 1) (length (file_bytes f)) j k).0

  -- and so are the bytes of their files
  pub filled_bytes : (n : ℕ) (x : Stored) → file_under s n ≡ Some x → part_in x.part written ≡ part_in x.part s.bytes
  filled_bytes n x e =
      let w = stored_where s.most s.directory s.bytes n x e in
      let j = w.0 in
      let k : w.0 ≡ i → ⊥ = λ q. let z : mark_at s.directory w.0 ≡ 0 = ap (mark_at s.directory) q ∙ h.free in omega (arith, z, w.1) in
      ap (λ p. part_in p written) w.3 ∙ part_kept s.most s.directory s.bytes i (s.next + 1) (file_bytes f) h.inside h.room j (length_at s.directory j) k w.2 ∙ sym (ap (λ p. part_in p s.bytes) w.3)

-- the slot of the next file is free, and no slot bears its number
next_slot_free : (next : ℕ) (d : List ℕ) (n i : ℕ) → Ok i ≡ next_slot next d n → (Some i ≡ slot_with d n 0) × (None ≡ slot_with d n (next + 1))
next_slot_free next d n i e = by (ltb next (2 ^ 32)) (slot_with d n (next + 1)) (slot_with d n 0) e
  where
    by : (b : Bool) (o f : Option ℕ) → Ok i ≡ cond b (some_else o (some_else f (no_room next d n) (λ j. Ok j)) (λ _. Err NumberTaken)) (no_room next d n) → (Some i ≡ f) × (None ≡ o)
    by true None None q = absurd (let z : ◌≡◌ {A = ℕ} 0 1 = cc in omega arith)
    by true None (Some j) q = let k : i ≡ j = cc in (ap Some k, refl)
    by true (Some j) f q = absurd (let z : ◌≡◌ {A = ℕ} 0 1 = cc in omega arith)
    by false o f q = absurd (let z : ◌≡◌ {A = ℕ} 0 1 = cc in omega arith)

-- whatever writes a file that bears the next number, whole and at the front of a slot, if it tells anything
abbrev pub Writes : Files → File → (ℕ → Option Written × List ℕ) → Type 0
Writes s f write =
    (i : ℕ) (told : Written) (bytes : List ℕ) → ◌≡◌ {A = Option Written × List ℕ} (Some told, bytes) (write i)
    → (f.number ≡ s.next) × (file_fits f ≡ true) × (told.length ≡ length (file_bytes f)) × (length (file_bytes f) ≤ slot_size s.most) × (bytes ≡ put_at (i * slot_size s.most) (file_bytes f) s.bytes)

-- what a put by it leaves
pub put_fills : (s t : Files) (f : File) (a : Added) (write : ℕ → Option Written × List ℕ) → Writes s f write → ◌≡◌ {A = Result Added Unput × Files} (Ok a, t) (put_by s write (slot_of s))
    → (i : ℕ) × Filled s f i × (t ≡ filled s f i) × (a.number ≡ s.next)
put_fills s t f a write w e = by (slot_of s) refl e
  where
    done : (i : ℕ) → Ok i ≡ slot_of s → (o : Option Written) (bytes : List ℕ) → ◌≡◌ {A = Option Written × List ℕ} (o, bytes) (write i) → ◌≡◌ {A = Result Added Unput × Files} (Ok a, t) (in_slot s i (o, bytes))
        → (i : ℕ) × Filled s f i × (t ≡ filled s f i) × (a.number ≡ s.next)
    done i p None bytes q r = absurd (let h : ◌≡◌ {A = Result Added Unput} (Ok a) (Err OutOfBounds) = ap (λ (x : Result Added Unput × Files). x.0) r in let z : ◌≡◌ {A = ℕ} 0 1 = cc in omega arith)
    done i p (Some told) bytes q r =
        let k = w i told bytes q in
        let n = next_slot_is s.next s.directory (slots s.most (length s.directory) (length s.bytes)) i p in
        let m = next_slot_free s.next s.directory (slots s.most (length s.directory) (length s.bytes)) i p in
        let h : Filled s f i =
        record {
          inside = n.1;
          free = slot_bears s.directory (slots s.most (length s.directory) (length s.bytes)) 0 i m.0;
          new = slot_each s.directory (slots s.most (length s.directory) (length s.bytes)) (s.next + 1) m.1;
          fits = k.1;
          number = k.0;
          room = k.3;
        } in
        let same : record { most = s.most; next = s.next + 1; directory = set (set s.directory (2 * i) (s.next + 1)) (1 + 2 * i) told.length; bytes = bytes } ≡ filled s f i = λ j.
        record { most = s.most; next = s.next + 1; directory = set (set s.directory (2 * i) (s.next + 1)) (1 + 2 * i) (k.2 j); bytes = k.4 j } in
        let told_is : ◌≡◌ {A = Result Added Unput} (Ok a) (Ok (record { number = s.next; keys = told.keys })) = ap (λ (x : Result Added Unput × Files). x.0) r in
        let added : a ≡ record { number = s.next; keys = told.keys } = cc in
        (i, h, ap (λ (x : Result Added Unput × Files). x.1) r ∙ same, ap (λ (x : Added). x.number) added)

    by : (r : Result ℕ Unput) → slot_of s ≡ r → ◌≡◌ {A = Result Added Unput × Files} (Ok a, t) (put_by s write r) → (i : ℕ) × Filled s f i × (t ≡ filled s f i) × (a.number ≡ s.next)
    by (Ok i) p q = done i (sym p) (write i).0 (write i).1 refl q
    by (Err u) p q = absurd (let h : ◌≡◌ {A = Result Added Unput} (Ok a) (Err u) = ap (λ (x : Result Added Unput × Files). x.0) q in let z : ◌≡◌ {A = ℕ} 0 1 = cc in omega arith)
