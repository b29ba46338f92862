-- Writes to a part of a list, and what they leave of the other parts.
use Rattle.std.proofs.Common.{◌≡◌, ℕ, zero, suc, ◌+◌, ◌-◌, ◌≤◌, Bool, true, false, cond, ◌&&◌, leb, ◌⊎◌, List, [], ◌∷◌, ◌++◌, length, take, drop, Some, None, sym, refl, ap, ◌∙◌, inl, inr, zero-add, arith}
use Rattle.std.proofs.lemmas.Bool.{or_right, le-leb, leb-true, leb-false, lt-leb}
use borrow.Rule.Slice.PartMut.{put_mid}
use Rattle.std.proofs.lemmas.List.{append_assoc, drop_at, drop-drop, drop-append-le, length-append, length-drop, length-take-le, take-append-drop, take_at, take-take}
use Rattle.std.proofs.Math.Bool.{and-true}
use Rattle.codec.specs.declared.rewrite.Part.{Part}
use Rattle.codec.specs.Rewrites.{lies_in, apart, part_in}
use Rattle.codec.specs.Words.{put_at}
use Rattle.codec.proofs.WordLaws.{put_front, read_below}

-- what lies behind a write is as it was
pub drop_past : (i at : ℕ) (ys xs : List ℕ) → at + length ys ≤ i → at ≤ length xs → drop i (put_at at ys xs) ≡ drop i xs
drop_past i at ys xs h l =
    let front = take at xs ++ ys in
    let n : length (take at xs ++ ys) ≡ at + length ys = length-append (take at xs) ys ∙ ap (λ k. k + length ys) (length-take-le at xs l) in
    let j = i - (at + length ys) in
    let e : (at + length ys) + (i - (at + length ys)) ≡ i = omega arith in
    ap (drop i) (sym (append_assoc (take at xs) ys (drop (at + length ys) xs)))
    ∙ ap (λ k. drop k ((take at xs ++ ys) ++ drop (at + length ys) xs)) (sym e)
    ∙ sym (drop-drop j (at + length ys) (front ++ drop (at + length ys) xs))
    ∙ ap (drop j) (drop_at front (drop (at + length ys) xs) (at + length ys) n)
    ∙ drop-drop j (at + length ys) xs
    ∙ ap (λ k. drop k xs) e

pub read_above : (i n at : ℕ) (ys xs : List ℕ) → at + length ys ≤ i → at ≤ length xs → take n (drop i (put_at at ys xs)) ≡ take n (drop i xs)
read_above i n at ys xs h l = ap (take n) (drop_past i at ys xs h l)

-- a part that lies apart from another is as it was after a write inside that
pub read_apart : (i n a k at : ℕ) (ys xs : List ℕ) → (i + n ≤ a) ⊎ (a + k ≤ i) → a ≤ at → at + length ys ≤ a + k → at ≤ length xs → take n (drop i (put_at at ys xs)) ≡ take n (drop i xs)
read_apart i n a k at ys xs (inl h) l r w = read_below i n at ys xs (omega arith) w
read_apart i n a k at ys xs (inr h) l r w = read_above i n at ys xs (omega arith) w

take_nil : (p : ℕ) → ◌≡◌ {A = List ℕ} (take p []) []
take_nil zero = refl
take_nil (suc p) = refl

pub take_add : (a p : ℕ) (xs : List ℕ) → take (a + p) xs ≡ take a xs ++ take p (drop a xs)
take_add zero p xs = ap (λ k. take k xs) (zero-add p)
take_add (suc a) p [] = let e : suc a + p ≡ suc (a + p) = omega arith in ap {B = List ℕ} (λ k. take k []) e ∙ sym (take_nil p)
take_add (suc a) p (x ∷ xs) = let e : suc a + p ≡ suc (a + p) = omega arith in ap (λ k. take k (x ∷ xs)) e ∙ ap (λ l. x ∷ l) (take_add a p xs)

-- a write to a part is a write to the whole
pub part_put : (a k p : ℕ) (ys xs zs : List ℕ) → a + k ≤ length xs → p + length ys ≤ k → zs ≡ put_at p ys (take k (drop a xs)) → put_mid a k xs zs ≡ put_at (a + p) ys xs
part_put a k p ys xs zs h l e =
    let D = drop a xs in
    let n : length (take a xs) ≡ a = length-take-le a xs (omega arith) in
    let m : length (drop a xs) ≡ length xs - a = length-drop a xs in
    let front : take p (take k (drop a xs)) ≡ take p (drop a xs) = take-take p k D (omega arith) in
    let back : drop (p + length ys) (take k (drop a xs)) ++ drop k (drop a xs) ≡ drop (p + length ys) (drop a xs) =
    sym (drop-append-le (p + length ys) (take k D) (drop k D) (omega (arith, length-take-le k D (omega (arith, m))))) ∙ ap (drop (p + length ys)) (take-append-drop k D) in
    let whole : zs ++ drop k (drop a xs) ≡ take p (drop a xs) ++ (ys ++ drop (p + length ys) (drop a xs)) =
    ap (λ l. l ++ drop k D) e ∙ append_assoc (take p (take k D)) (ys ++ drop (p + length ys) (take k D)) (drop k D)
    ∙ ap (λ l. l ++ ((ys ++ drop (p + length ys) (take k D)) ++ drop k D)) front
    ∙ ap (λ l. take p D ++ l) (append_assoc ys (drop (p + length ys) (take k D)) (drop k D))
    ∙ ap (λ l. take p D ++ (ys ++ l)) back in
    let start : take (a + p) xs ≡ take a xs ++ take p (drop a xs) = take_add a p xs in
    let end : drop (p + length ys) (drop a xs) ≡ drop (a + p + length ys) xs = drop-drop (p + length ys) a xs ∙ ap (λ j. drop j xs) (omega arith) in
    ap (λ l. take a xs ++ l) whole
    ∙ sym (append_assoc (take a xs) (take p D) (ys ++ drop (p + length ys) D))
    ∙ ap (λ l. l ++ (ys ++ drop (p + length ys) D)) (sym start)
    ∙ ap (λ l. take (a + p) xs ++ (ys ++ l)) end

-- memory of three parts: a write to the middle is a write to the whole
pub middle_put : (before out behind ys : List ℕ) → length ys ≤ length out → before ++ (put_at 0 ys out ++ behind) ≡ put_at (length before) ys (before ++ (out ++ behind))
middle_put before out behind ys l =
    let whole = before ++ (out ++ behind) in
    let front : take (length before) (before ++ (out ++ behind)) ≡ before = take_at before (out ++ behind) (length before) refl in
    let back : drop (length before + length ys) (before ++ (out ++ behind)) ≡ drop (length ys) out ++ behind =
    sym (drop-drop (length ys) (length before) whole) ∙ ap (drop (length ys)) (drop_at before (out ++ behind) (length before) refl) ∙ drop-append-le (length ys) out behind l in
    ap (λ l. before ++ (l ++ behind)) (put_front ys out) ∙ ap (λ l. before ++ l) (append_assoc ys (drop (length ys) out) behind ∙ ap (λ l. ys ++ l) (sym back))
    ∙ ap (λ l. l ++ (ys ++ drop (length before + length ys) whole)) (sym front)

-- a part of such memory that lies behind the middle
module _ (before out behind : List ℕ) (p : Part) where
  abbrev whole : List ℕ
  whole = before ++ (out ++ behind)

  abbrev middle : Part
  middle = record { start = length before; length = length out }

  long : length (before ++ (out ++ behind)) ≡ length before + length out + length behind
  long = omega (arith, length-append before (out ++ behind), length-append out behind)

  pub part_behind : (start : ℕ) → p.start ≡ start + (length before + length out)
      → cond (leb (start + p.length) (length behind)) (Some (take p.length (drop start behind))) None ≡ cond (lies_in p (length whole) && apart p middle) (Some (part_in p whole)) None
  part_behind start h =
      let rest : drop (length before + length out) whole ≡ behind =
      sym (drop-drop (length out) (length before) whole) ∙ ap (drop (length out)) (drop_at before (out ++ behind) (length before) refl) ∙ drop_at out behind (length out) refl in
      let same : drop p.start whole ≡ drop start behind = ap (λ k. drop k whole) (omega (arith, h)) ∙ sym (drop-drop start (length before + length out) whole) ∙ ap (drop start) rest in
      let away : apart p middle ≡ true = or_right (leb (p.start + p.length) (length before)) _ (le-leb (length before + length out) p.start (omega (arith, h))) in
      rw (away, same, inside (leb (start + p.length) (length behind)) refl, and-true)
    where
      inside : (b : Bool) → leb (start + p.length) (length behind) ≡ b → lies_in p (length whole) ≡ leb (start + p.length) (length behind)
      inside true e = le-leb (p.start + p.length) (length whole) (omega (arith, leb-true _ _ e, long, h)) ∙ sym e
      inside false e = lt-leb (p.start + p.length) (length whole) (omega (arith, leb-false _ _ e, long, h)) ∙ sym e
