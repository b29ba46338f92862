-- The numbers that lie ahead in bytes that are read.
use Rattle.std.proofs.Common.{◌≡◌, ℕ, ◌+◌, ◌-◌, ◌^◌, ◌<◌, ◌≤◌, cond, eqb, ltb, List, length, take, drop, Some, Ok, Err, Result, sym, ap, ◌∙◌, arith}
use Rattle.std.proofs.lemmas.Bool.{lt-ltb, le-ltb, ne_eqb}
use Rattle.std.proofs.lemmas.Bool.Decides.{nat_tests}
use Rattle.std.proofs.lemmas.List.{drop-drop, length-drop}
use Rattle.codec.specs.Words.{le, word_from}
use Rattle.store.specs.Import.{word_at, file_end}
use Rattle.store.specs.Slots.{slot_size}
use Rattle.store.specs.declared.unread.Unread.{Unread}
use Rattle.store.specs.declared.unread.Unread.TheVariants.{At}

module _ (at ahead : ℕ) (bs : List ℕ) where
  pub word_there : (w : ℕ) → Some w ≡ word_from ahead (drop at bs) → (ahead + 8 ≤ length bs - at) × (w ≡ word_at (at + ahead) bs)
  word_there w e =
      let long = length-drop at bs in
      let far : drop ahead (drop at bs) ≡ drop (at + ahead) bs = drop-drop ahead at bs in
      let told : (ahead + 8 ≤ length bs - at) × (w ≡ le (take 8 (drop ahead (drop at bs)))) = (grind (arith, nat_tests, e, long), grind (arith, nat_tests, e)) in
      (told.0, told.1 ∙ ap (λ l. le (take 8 l)) far)

-- where a file ends, by its number and its length
module _ (most at : ℕ) (bs : List ℕ) (number long : ℕ) (a : Some number ≡ word_from 0 (drop at bs)) (b : Some long ≡ word_from 8 (drop at bs)) (free : number ≡ 2 ^ 64 - 1 → ⊥) where
  abbrev Told : Type 0
  Told = Result ℕ Unread

  abbrev behind : ℕ → Told
  behind n = cond (ltb (slot_size most) n) (Err (At (at + 8))) (cond (ltb (length bs - at - 16) n) (Err (At (length bs))) (Ok (at + 16 + n)))

  front : behind long ≡ file_end most at bs
  front =
      let x = word_there at 0 bs number a in
      let y = word_there at 8 bs long b in
      let here : number ≡ word_at at bs = let e : at + 0 ≡ at = omega arith in x.1 ∙ ap (λ k. word_at k bs) e in
      ap behind y.1
      ∙ sym (ap (λ t. cond {A = Told} t (Err (At (length bs))) (cond (eqb (word_at at bs) (2 ^ 64 - 1)) (Err (At at)) (behind (word_at (at + 8) bs)))) (le-ltb (length bs - at) 16 y.0)
      ∙ ap (λ t. cond {A = Told} t (Err (At at)) (behind (word_at (at + 8) bs))) (ne_eqb (word_at at bs) (2 ^ 64 - 1) (λ e. free (here ∙ e))))

  pub file_too_long : slot_size most < long → Err (At (at + 8)) ≡ file_end most at bs
  file_too_long h = ap (λ t. cond {A = Told} t (Err (At (at + 8))) (cond (ltb (length bs - at - 16) long) (Err (At (length bs))) (Ok (at + 16 + long)))) (sym (lt-ltb (slot_size most) long h)) ∙ front

  module _ (h : long ≤ slot_size most) where
    fits : cond {A = Told} (ltb (length bs - at - 16) long) (Err (At (length bs))) (Ok (at + 16 + long)) ≡ file_end most at bs
    fits = ap (λ t. cond {A = Told} t (Err (At (at + 8))) (cond (ltb (length bs - at - 16) long) (Err (At (length bs))) (Ok (at + 16 + long)))) (sym (le-ltb (slot_size most) long h)) ∙ front

    pub file_cut : length bs - at - 16 < long → Err (At (length bs)) ≡ file_end most at bs
    file_cut k = ap (λ t. cond {A = Told} t (Err (At (length bs))) (Ok (at + 16 + long))) (sym (lt-ltb (length bs - at - 16) long k)) ∙ fits

    pub file_whole : long ≤ length bs - at - 16 → Ok (at + 16 + long) ≡ file_end most at bs
    file_whole k = ap (λ t. cond {A = Told} t (Err (At (length bs))) (Ok (at + 16 + long))) (sym (le-ltb (length bs - at - 16) long k)) ∙ fits
