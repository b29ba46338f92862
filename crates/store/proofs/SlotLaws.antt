-- Slots of a directory, one by one.
use Rattle.std.proofs.Common.{◌≡◌, ℕ, zero, suc, ◌+◌, ◌-◌, ◌*◌, ◌/◌, ◌<◌, ◌≤◌, Bool, true, false, cond, eqb, leb, List, [], length, get_or, take, drop, set, Some, None, Option, sym, refl, ap, ◌∙◌, mul-le-mul_right, div-mul-le_self, add-one, arith}
use Rattle.std.proofs.lemmas.List.{get_or-set_other, length-drop, length-set, length-take-le}
use Rattle.std.proofs.lemmas.Bool.{eq-eqb, ne_eqb, leb-true, le-leb, lt-leb}
use Rattle.std.specs.Option.{option_map}
use Rattle.rows.specs.Checks.{some_else}
use Rattle.codec.specs.declared.file.Head.{Head}
use Rattle.codec.specs.declared.rewrite.Part.{Part}
use Rattle.codec.specs.Files.{File, head_of, file_from, file_in}
use Rattle.codec.proofs.SealLaws.{unsealed_empty}
use Rattle.store.specs.declared.files.Stored.{Stored}
use Rattle.store.specs.Slots.{slot_size, slots, slot_bytes, mark_at, length_at, stored_at, stored, first_from, slot_with, freed}

-- a search from the first slot on
pub first_within : (p : ℕ → Bool) (n i j : ℕ) → Some j ≡ first_from p n i → j < i + n
first_within p zero i j e = absurd (let z : ◌≡◌ {A = ℕ} 0 1 = cc in omega arith)
first_within p (suc n) i j e = by (p i) (first_within p n (i + 1) j) e
  where
    by : (b : Bool) → (Some j ≡ first_from p n (i + 1) → j < i + 1 + n) → Some j ≡ cond b (Some i) (first_from p n (i + 1)) → j < i + suc n
    by true ih q = let k : j ≡ i = cc in omega arith
    by false ih q = omega (arith, ih q)

pub slot_within : (d : List ℕ) (n x j : ℕ) → Some j ≡ slot_with d n x → j < n
unfolding slot_with
slot_within d n x j e = let h = first_within (λ i. eqb (mark_at d i) x) n 0 j e in omega arith

-- a slot lies in the memory
pub slot_inside : (most marks bytes i : ℕ) → i < slots most marks bytes → (2 * i + 2 ≤ marks) × (i * slot_size most + slot_size most ≤ bytes)
slot_inside most marks bytes i h =
    let a : i < marks / 2 = omega arith in
    let b : i + 1 ≤ bytes / slot_size most = omega arith in
    let m : (i + 1) * slot_size most ≤ bytes / slot_size most * slot_size most = mul-le-mul_right (slot_size most) b in
    let d : bytes / slot_size most * slot_size most ≤ bytes = div-mul-le_self bytes (slot_size most) in
    (omega arith, omega (arith, m, d))

-- freeing slots from the first on
pub length_freed : (d : List ℕ) (x n : ℕ) → length (freed d x n) ≡ length d
length_freed d x zero = refl
length_freed d x (suc n) = by (length_freed d x n) (eqb (mark_at d n) x)
  where
    by : length (freed d x n) ≡ length d → (b : Bool) → length (cond b (set (freed d x n) (2 * n) 0) (freed d x n)) ≡ length d
    by ih true = length-set (freed d x n) (2 * n) 0 ∙ ih
    by ih false = ih

pub freed_above : (d : List ℕ) (x n j : ℕ) → 2 * n ≤ j → get_or (freed d x n) j 0 ≡ get_or d j 0
freed_above d x zero j h = refl
freed_above d x (suc n) j h = by (freed_above d x n j (omega arith)) (eqb (mark_at d n) x)
  where
    by : get_or (freed d x n) j 0 ≡ get_or d j 0 → (b : Bool) → get_or (cond b (set (freed d x n) (2 * n) 0) (freed d x n)) j 0 ≡ get_or d j 0
    by ih true = get_or-set_other (freed d x n) (2 * n) j 0 0 (omega arith) ∙ ih
    by ih false = ih

module _ (d : List ℕ) (x i : ℕ) (cur : List ℕ) (inv : cur ≡ freed d x i) where
  mark_still : get_or cur (2 * i) 0 ≡ mark_at d i
  mark_still = ap (λ l. get_or l (2 * i) 0) inv ∙ freed_above d x i (2 * i) (omega arith)

  pub freed_here : (cur' : List ℕ) → get_or cur (2 * i) 0 ≡ x → cur' ≡ set cur (2 * i) 0 → cur' ≡ freed d x (i + 1)
  freed_here cur' e f =
      f ∙ ap (λ l. set l (2 * i) 0) inv
      ∙ ap (λ b. cond b (set (freed d x i) (2 * i) 0) (freed d x i)) (sym (eq-eqb (mark_at d i) x (sym mark_still ∙ e))) ∙ ap (freed d x) (sym (add-one i))

  pub freed_not : (cur' : List ℕ) → (get_or cur (2 * i) 0 ≡ x → ⊥) → cur' ≡ cur → cur' ≡ freed d x (i + 1)
  freed_not cur' e f =
      f ∙ inv
      ∙ ap (λ b. cond b (set (freed d x i) (2 * i) 0) (freed d x i)) (sym (ne_eqb (mark_at d i) x (λ q. e (mark_still ∙ q)))) ∙ ap (freed d x) (sym (add-one i))

-- the bytes of a slot, by the length that it says
module _ (most : ℕ) (d fs : List ℕ) (i n : ℕ) (e : n ≡ length_at d i) where
  pub slot_overfull : slot_size most < n → [] ≡ slot_bytes most d fs i
  slot_overfull h = ap (λ b. cond b (take (length_at d i) (drop (i * slot_size most) fs)) []) (sym (lt-leb (length_at d i) (slot_size most) (omega (arith, e, h))))

  pub slot_filled : (start end : ℕ) → start ≡ i * slot_size most → end ≡ start + n → n ≤ slot_size most → take (end - start) (drop start fs) ≡ slot_bytes most d fs i
  slot_filled start end z f h =
      let k : end - start ≡ length_at d i = omega (arith, e, f) in
      ap (λ m. take m (drop start fs)) k ∙ ap (λ m. take (length_at d i) (drop m fs)) z
      ∙ ap (λ b. cond b (take (length_at d i) (drop (i * slot_size most) fs)) []) (sym (le-leb (length_at d i) (slot_size most) (omega (arith, e, h))))

-- the file of a slot
pub file_in_nothing : None ≡ file_in []
unfolding file_in
file_in_nothing = ap (λ o. some_else o None file_from) (sym (unsealed_empty [] refl refl))

pub stored_too_long : (most : ℕ) (d fs : List ℕ) (n i : ℕ) → slot_size most < length_at d i → None ≡ stored_at most d fs n i
stored_too_long most d fs n i h =
    let check : File → Option Stored = λ f. cond {A = Option Stored} (eqb f.number n) (Some (record { part = record { start = i * slot_size most; length = length_at d i }; head = head_of f })) None in
    ap (λ o. some_else o None check) file_in_nothing
    ∙ ap (λ b. some_else (file_in (cond b (take (length_at d i) (drop (i * slot_size most) fs)) [])) None check) (sym (lt-leb (length_at d i) (slot_size most) h))

module _ (most : ℕ) (d fs : List ℕ) (n i : ℕ) (bs : List ℕ) (e : bs ≡ slot_bytes most d fs i) where
  abbrev check : File → Option Stored
  check f = cond (eqb f.number n) (Some (record { part = record { start = i * slot_size most; length = length_at d i }; head = head_of f })) None

  in_slot : some_else (file_in bs) None check ≡ stored_at most d fs n i
  in_slot = ap (λ l. some_else (file_in l) None check) e

  pub stored_no_file : None ≡ option_map head_of (file_in bs) → None ≡ stored_at most d fs n i
  stored_no_file p = by (file_in bs) p ∙ in_slot
    where
      by : (o : Option File) → None ≡ option_map head_of o → None ≡ some_else o None check
      by None r = refl
      by (Some f) r = absurd (let z : ◌≡◌ {A = ℕ} 0 1 = cc in omega arith)

  pub stored_other : (g : Head) → Some g ≡ option_map head_of (file_in bs) → (g.number ≡ n → ⊥) → None ≡ stored_at most d fs n i
  stored_other g p ne = by (file_in bs) p ∙ in_slot
    where
      by : (o : Option File) → Some g ≡ option_map head_of o → None ≡ some_else o None check
      by None q = absurd (let z : ◌≡◌ {A = ℕ} 0 1 = cc in omega arith)
      by (Some f) q =
          let k : g ≡ head_of f = cc in
          let m : g.number ≡ f.number = ap (λ (x : Head). x.number) k in
          ap (λ b. cond {A = Option Stored} b (Some (record { part = record { start = i * slot_size most; length = length_at d i }; head = head_of f })) None) (sym (ne_eqb f.number n (λ z. ne (m ∙ z))))

  -- a file has as many bytes as its slot says
  pub length_told : (g : Head) → i < slots most (length d) (length fs) → Some g ≡ option_map head_of (file_in bs) → length bs ≡ length_at d i
  length_told g h p = by (leb (length_at d i) (slot_size most)) refl e
    where
      by : (b : Bool) → leb (length_at d i) (slot_size most) ≡ b → bs ≡ cond b (take (length_at d i) (drop (i * slot_size most) fs)) [] → length bs ≡ length_at d i
      by true q r =
          ap length r
          ∙ length-take-le (length_at d i) (drop (i * slot_size most) fs) (omega (arith, leb-true (length_at d i) (slot_size most) q, (slot_inside most (length d) (length fs) i h).1, length-drop (i * slot_size most) fs))
      by false q r =
          let none : option_map head_of (file_in bs) ≡ None = ap (λ l. option_map head_of (file_in l)) r ∙ ap (option_map head_of) (sym file_in_nothing) in
          absurd (let z : ◌≡◌ {A = ℕ} 0 1 = cc in omega arith)

  pub stored_here : (g : Head) (part : Part) → Some g ≡ option_map head_of (file_in bs) → g.number ≡ n → part ≡ record { start = i * slot_size most; length = length_at d i } → Some (record { part = part; head = g }) ≡ stored_at most d fs n i
  stored_here g part p eq pe = by (file_in bs) p ∙ in_slot
    where
      by : (o : Option File) → Some g ≡ option_map head_of o → Some (record { part = part; head = g }) ≡ some_else o None check
      by None q = absurd (let z : ◌≡◌ {A = ℕ} 0 1 = cc in omega arith)
      by (Some f) q =
          let k : g ≡ head_of f = cc in
          let m : g.number ≡ f.number = ap (λ (x : Head). x.number) k in
          let same : record { part = part; head = g } ≡ record { part = record { start = i * slot_size most; length = length_at d i }; head = head_of f } = λ j. record { part = pe j; head = k j } in
          ap Some same ∙ ap (λ b. cond {A = Option Stored} b (Some (record { part = record { start = i * slot_size most; length = length_at d i }; head = head_of f })) None) (sym (eq-eqb f.number n (sym m ∙ eq)))

-- the file under a number
pub stored_nowhere : (most : ℕ) (d fs : List ℕ) (n k : ℕ) → k ≡ slots most (length d) (length fs) → None ≡ slot_with d k (n + 1) → None ≡ stored most d fs n
unfolding stored
stored_nowhere most d fs n k e p = ap (λ o. some_else o None (stored_at most d fs n)) (p ∙ ap (λ j. slot_with d j (n + 1)) e)

pub stored_in : (most : ℕ) (d fs : List ℕ) (n k i : ℕ) → k ≡ slots most (length d) (length fs) → Some i ≡ slot_with d k (n + 1) → stored_at most d fs n i ≡ stored most d fs n
unfolding stored
stored_in most d fs n k i e p = ap (λ o. some_else o None (stored_at most d fs n)) (p ∙ ap (λ j. slot_with d j (n + 1)) e)
