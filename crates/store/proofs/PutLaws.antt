-- Files put into slots.
use Rattle.std.proofs.Common.{◌≡◌, ℕ, ◌+◌, ◌*◌, ◌%◌, ◌^◌, ◌<◌, ◌≤◌, Bool, true, false, cond, ◌&&◌, eqb, ltb, List, ◌++◌, length, take, drop, set, Some, None, Ok, Err, Option, Result, sym, refl, ap, ◌∙◌, add-zero, arith}
use borrow.Rule.Slice.PartMut.{put_mid}
use Rattle.std.proofs.lemmas.List.{length-drop, length-take-le, take-append-drop}
use Rattle.std.proofs.lemmas.Bool.{ltb-true}
use Rattle.rows.specs.Checks.{some_else}
use Rattle.codec.specs.declared.entry.Added.{Added}
use Rattle.codec.specs.declared.rewrite.Part.{Part}
use Rattle.codec.specs.declared.rewrite.Rewrite.{Rewrite}
use Rattle.codec.specs.declared.write.Written.{Written}
use Rattle.codec.specs.Rewrites.{rewrite_done}
use Rattle.codec.specs.Files.{File, file, pairs, file_bytes}
use Rattle.codec.specs.Words.{put_at}
use Rattle.codec.specs.Writes.{told_of, writes, lent_written}
use Rattle.codec.proofs.PartLaws.{part_put}
use Rattle.codec.proofs.LentFiles.{writes_room}
use Rattle.codec.proofs.WordLaws.{put_front}
use Rattle.store.specs.declared.unput.Unput.{Unput}
use Rattle.store.specs.declared.unput.Unput.TheVariants.{NumberTaken, OutOfBounds}
use Rattle.store.specs.Putting.{no_room, next_slot, Files, slot_part, in_slot, put_by, slot_of, lent_in}
use Rattle.store.specs.Slots.{slot_size, slot_with}
use Rattle.store.proofs.SlotLaws.{slot_within}

-- what is known of the slot that the next file goes into
pub next_slot_is : (next : ℕ) (d : List ℕ) (n i : ℕ) → Ok i ≡ next_slot next d n → (next < 2 ^ 32) × (i < n)
next_slot_is next d n i e = by (ltb next (2 ^ 32)) refl (slot_with d n (next + 1)) (slot_with d n 0) refl e
  where
    by : (b : Bool) → ltb next (2 ^ 32) ≡ b → (o f : Option ℕ) → slot_with d n 0 ≡ f
        → Ok i ≡ cond b (some_else o (some_else f (no_room next d n) (λ j. Ok j)) (λ _. Err NumberTaken)) (no_room next d n) → (next < 2 ^ 32) × (i < n)
    by true t None None g q = absurd (let z : ◌≡◌ {A = ℕ} 0 1 = cc in omega arith)
    by true t None (Some j) g q =
        let k : i ≡ j = cc in
        (ltb-true next (2 ^ 32) t, slot_within d n 0 i (ap Some k ∙ sym g))
    by true t (Some j) f g q = absurd (let z : ◌≡◌ {A = ℕ} 0 1 = cc in omega arith)
    by false t o f g q = absurd (let z : ◌≡◌ {A = ℕ} 0 1 = cc in omega arith)

-- a put by whatever writes the file
module _ (s : Files) (write : ℕ → Option Written × List ℕ) where
  pub put_not : (u : Unput) → Err u ≡ slot_of s → ◌≡◌ {A = Result Added Unput × Files} (Err u, s) (put_by s write (slot_of s))
  put_not u p = ap (put_by s write) p

  module _ (i : ℕ) (p : Ok i ≡ slot_of s) where
    pub put_unfit : (cur : List ℕ) → ◌≡◌ {A = Option Written × List ℕ} (None, cur) (write i) → cur ≡ s.bytes
        → ◌≡◌ {A = Result Added Unput × Files} (Err OutOfBounds, record { most = s.most; next = s.next; directory = s.directory; bytes = cur }) (put_by s write (slot_of s))
    put_unfit cur q e =
        ap (λ b. (Err OutOfBounds, record { most = s.most; next = s.next; directory = s.directory; bytes = b })) e
        ∙ ap (in_slot s i) q ∙ ap (put_by s write) p

    pub put_done : (w : Written) (cur d : List ℕ) (a : Added) (n m : ℕ) → ◌≡◌ {A = Option Written × List ℕ} (Some w, cur) (write i) → a ≡ record { number = s.next; keys = w.keys }
        → d ≡ set (set s.directory (2 * i) (s.next + 1)) (1 + 2 * i) w.length → n ≡ s.next + 1 → m ≡ s.most
        → ◌≡◌ {A = Result Added Unput × Files} (Ok a, record { most = m; next = n; directory = d; bytes = cur }) (put_by s write (slot_of s))
    put_done w cur d a n m q ea ed en em =
        let told : ◌≡◌ {A = Result Added Unput × Files} (Ok a, record { most = m; next = n; directory = d; bytes = cur }) (in_slot s i (Some w, cur)) =
        λ j. (Ok (ea j), record { most = em j; next = en j; directory = ed j; bytes = cur }) in
        told ∙ ap (in_slot s i) q ∙ ap (put_by s write) p

-- where nothing was written, the memory is as it was
pub none_same : {A : Type 0} (b : Bool) (x : A) (ys xs cur : List ℕ) → ◌≡◌ {A = Option A × List ℕ} (None, cur) (cond b (Some x, ys) (None, xs)) → cur ≡ xs
none_same true x ys xs cur e = absurd (let h = ap (λ p. p.0) e in let z : ◌≡◌ {A = ℕ} 0 1 = cc in omega arith)
none_same false x ys xs cur e = ap (λ p. p.1) e

part_still : (a k : ℕ) (xs : List ℕ) → put_mid a k xs (take k (drop a xs)) ≡ xs
part_still a k xs = ap (λ l. take a xs ++ l) (take-append-drop k (drop a xs)) ∙ take-append-drop a xs

-- a file of lent rows written to a part is written to the whole
module _ (n b : ℕ) (lent xs : List ℕ) (a k : ℕ) (o : Option Written) (zs : List ℕ) (h : a + k ≤ length xs) where
  abbrev f : File
  f = file n b (pairs lent)

  abbrev part : List ℕ
  part = take k (drop a xs)

  both : (x y : Option Written) (us vs : List ℕ) → x ≡ y → us ≡ vs → ◌≡◌ {A = Option Written × List ℕ} (x, us) (y, vs)
  both x y us vs p q = λ j. (p j, q j)

  by : (p w : Bool) → (w ≡ true → length (file_bytes f) ≤ k)
      → ◌≡◌ {A = Option Written × List ℕ} (o, zs) (cond p (cond w (Some (told_of f), file_bytes f ++ drop (length (file_bytes f)) part) (None, part)) (None, part))
      → ◌≡◌ {A = Option Written × List ℕ} (o, put_mid a k xs zs) (cond (p && w) (Some (told_of f), put_at a (file_bytes f) xs) (None, xs))
  by true true r q =
      let z : zs ≡ put_at 0 (file_bytes f) part = ap (λ (x : Option Written × List ℕ). x.1) q ∙ sym (put_front (file_bytes f) part) in
      both o (Some (told_of f)) (put_mid a k xs zs) (put_at a (file_bytes f) xs) (ap (λ (x : Option Written × List ℕ). x.0) q)
      (part_put a k 0 (file_bytes f) xs zs h (omega (arith, r refl)) z ∙ ap (λ j. put_at j (file_bytes f) xs) (add-zero a))
  by true false r q =
      both o None (put_mid a k xs zs) xs (ap (λ (x : Option Written × List ℕ). x.0) q) (ap (put_mid a k xs) (ap (λ (x : Option Written × List ℕ). x.1) q) ∙ part_still a k xs)
  by false w r q =
      both o None (put_mid a k xs zs) xs (ap (λ (x : Option Written × List ℕ). x.0) q) (ap (put_mid a k xs) (ap (λ (x : Option Written × List ℕ). x.1) q) ∙ part_still a k xs)

  pub lent_part : ◌≡◌ {A = Option Written × List ℕ} (o, zs) (lent_written n b lent (take k (drop a xs))) → ◌≡◌ {A = Option Written × List ℕ} (o, put_mid a k xs zs) (lent_in n b lent (record { start = a; length = k }) xs)
  lent_part e =
      let long : length part ≡ k = length-take-le k (drop a xs) (omega (arith, length-drop a xs)) in
      by (eqb (length lent % 2) 0) (writes f k) (λ w. writes_room f k w)
      (e ∙ ap (λ m. cond (eqb (length lent % 2) 0) (cond (writes f m) (Some (told_of f), file_bytes f ++ drop (length (file_bytes f)) part) (None, part)) (None, part)) long)

pub lent_in_slot : (n b : ℕ) (lent xs : List ℕ) (most i a k : ℕ) → a ≡ i * slot_size most → k ≡ slot_size most → lent_in n b lent (record { start = a; length = k }) xs ≡ lent_in n b lent (slot_part most i) xs
lent_in_slot n b lent xs most i a k e f = ap (λ m. lent_in n b lent (record { start = m; length = k }) xs) e ∙ ap (λ m. lent_in n b lent (record { start = i * slot_size most; length = m }) xs) f

pub in_that_slot : (w : Rewrite) (xs : List ℕ) (ps : List Part) (n b most i a k : ℕ) → a ≡ i * slot_size most → k ≡ slot_size most
    → rewrite_done w xs ps (record { start = a; length = k }) n b ≡ rewrite_done w xs ps (slot_part most i) n b
in_that_slot w xs ps n b most i a k e f =
    ap (λ m. rewrite_done w xs ps (record { start = m; length = k }) n b) e ∙ ap (λ m. rewrite_done w xs ps (record { start = i * slot_size most; length = m }) n b) f
