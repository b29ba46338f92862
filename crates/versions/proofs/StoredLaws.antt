-- Where a file of a store lies, and its rows one by one.
use Rattle.std.proofs.Common.{◌≡◌, ℕ, ◌+◌, ◌-◌, ◌*◌, ◌<◌, ◌≤◌, Bool, true, false, cond, eqb, ◌⊎◌, List, [], length, take, drop, Some, None, Option, sym, refl, ap, ◌∙◌, subst, inl, inr, arith}
use Rattle.std.specs.Option.{option_map}
use Rattle.std.proofs.lemmas.Bool.{cases_lt, le-leb}
use Rattle.rows.specs.Checks.{some_else}
use Rattle.codec.specs.Files.{File, head_of, file_in}
use Rattle.codec.specs.Rewrites.{part_in}
use Rattle.codec.specs.declared.rewrite.Part.{Part}
use Rattle.codec.proofs.RewriteLaws.{head_there}
use Rattle.store.specs.declared.files.Stored.{Stored}
use Rattle.store.specs.Putting.{Files}
use Rattle.store.specs.Slots.{slot_size, slots, length_at, slot_with, slot_bytes, stored_at, stored}
use Rattle.store.specs.StoreLaws.{file_under}
use Rattle.store.proofs.SlotLaws.{slot_within, slot_inside, stored_too_long}
use Rattle.versions.specs.FilesHeld.{HasRows}

-- a file that is found lies within the file bytes, and its head is that of the file that it is
pub record Lies (s : Files) (x : Stored) : Type 0 where
  pub inside : x.part.start + x.part.length ≤ length s.bytes
  pub rows : HasRows (part_in x.part s.bytes) x.head.count

module _ (s : Files) (n : ℕ) (x : Stored) where
  abbrev many : ℕ
  many = slots s.most (length s.directory) (length s.bytes)

  abbrev long : ℕ → ℕ
  long j = length_at s.directory j

  abbrev at_slot : ℕ → File → Stored
  at_slot j f = record { part = record { start = j * slot_size s.most; length = long j }; head = head_of f }

  lies_at : (j : ℕ) → j < many → long j ≤ slot_size s.most → stored_at s.most s.directory s.bytes n j ≡ Some x → Lies s x
  lies_at j l h e = by (file_in bs) refl (ap (λ xs. some_else (file_in xs) None found) (sym whole) ∙ e)
    where
      bs : List ℕ
      bs = take (long j) (drop (j * slot_size s.most) s.bytes)

      whole : slot_bytes s.most s.directory s.bytes j ≡ bs
      whole = ap (λ b. cond b bs []) (le-leb (long j) (slot_size s.most) h)

      found : File → Option Stored
      found f = cond (eqb f.number n) (Some (at_slot j f)) None

      here : (f : File) → file_in bs ≡ Some f → at_slot j f ≡ x → Lies s x
      here f p q = subst (Lies s) q (record { inside = omega (arith, (slot_inside s.most (length s.directory) (length s.bytes) j l).1); rows = head_there bs (head_of f) (ap (option_map head_of) (sym p)) })

      by : (o : Option File) → file_in bs ≡ o → some_else o None found ≡ Some x → Lies s x
      by None p q = absurd (let z : ◌≡◌ {A = ℕ} 0 1 = cc in omega arith)
      by (Some f) p q = one (eqb f.number n) q
        where
          one : (b : Bool) → cond b (Some (at_slot j f)) None ≡ Some x → Lies s x
          one true r = here f p (let k : at_slot j f ≡ x = cc in k)
          one false r = absurd (let z : ◌≡◌ {A = ℕ} 0 1 = cc in omega arith)

  pub stored_lies : Some x ≡ file_under s n → Lies s x
  unfolding stored
  stored_lies e = by (slot_with s.directory many (n + 1)) refl (sym e)
    where
      at : (j : ℕ) → j < many → stored_at s.most s.directory s.bytes n j ≡ Some x → (slot_size s.most < long j) ⊎ (long j ≤ slot_size s.most) → Lies s x
      at j l q (inl h) = absurd (let y : None ≡ stored_at s.most s.directory s.bytes n j = stored_too_long s.most s.directory s.bytes n j h in let z : ◌≡◌ {A = ℕ} 0 1 = cc in omega arith)
      at j l q (inr h) = lies_at j l h q

      by : (o : Option ℕ) → slot_with s.directory many (n + 1) ≡ o → some_else o None (stored_at s.most s.directory s.bytes n) ≡ Some x → Lies s x
      by None p q = absurd (let z : ◌≡◌ {A = ℕ} 0 1 = cc in omega arith)
      by (Some j) p q = at j (slot_within s.directory many (n + 1) j (sym p)) q (cases_lt (slot_size s.most) (long j))

-- of `&files[start..start + length]`
pub part_slice : (p : Part) (xs : List ℕ) → take (p.start + p.length - p.start) (drop p.start xs) ≡ part_in p xs
part_slice p xs = ap (λ n. take n (drop p.start xs)) (omega arith)
