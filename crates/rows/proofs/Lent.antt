-- Lent rows, read one after the other.
use Rattle.std.proofs.Common.{Bor, ◌≡◌, ℕ, ◌+◌, ◌-◌, ◌*◌, min, ◌++◌, ◌<◌, ◌≤◌, List, [], ◌∷◌, length, Some, Ok, Err, Result, sym, refl, ap, length-append, ◌∙◌, arith}
use Rattle.std.proofs.lemmas.List.{nil_from_length}
use Rattle.std.proofs.lemmas.Bool.Decides.{nat_tests}
use Rattle.std.specs.declared.iter.Enumerate.{Enumerate}
use Rattle.std.specs.declared.slice.Chunks.{Chunks}
use Rattle.std.specs.Iterator.Adapters.{enumerate_source, enumerate_count, enumerate_steps}
use Rattle.std.specs.Slice.Iter.{chunks_rest, chunks_size, chunks_steps}
use Rattle.rows.specs.declared.refusal.Refusal.{Refusal}
use Rattle.rows.specs.declared.row.Row.{Row}
use Rattle.rows.specs.Checks.{and_then}
use Rattle.rows.specs.Numbers.{row_from, rows_from, lent_rows}

and_then_same : {A B E : Type 0} (r : Result A E) (f g : A → Result B E) → ((a : A) → f a ≡ g a) → and_then r f ≡ and_then r g
and_then_same (Ok a) f g e = e a
and_then_same (Err x) f g e = refl

and_then_cons : {B : Type 0} (r : Result (List Row) Refusal) (x : Row) (F : List Row → B)
    → and_then (and_then r (λ rs. Ok (x ∷ rs))) (λ rs. Ok (F rs)) ≡ and_then r (λ rs. Ok (F (x ∷ rs)))
and_then_cons (Ok rs) x F = refl
and_then_cons (Err e) x F = refl

-- a pair of lent rows, and then the others
rows_step : (i : ℕ) (pair rest : List ℕ) → length pair ≡ min 2 (length (pair ++ rest)) → 0 < length (pair ++ rest)
    → rows_from i (pair ++ rest) ≡ and_then (row_from i pair) (λ r. and_then (rows_from (2 + i) rest) (λ rs. Ok (r ∷ rs)))
rows_step i [] rest e h = grind arith
rows_step i (k ∷ []) [] e h = grind (arith, nat_tests)
rows_step i (k ∷ []) (x ∷ rest) e h = grind arith
rows_step i (k ∷ a ∷ []) rest e h = grind (arith, nat_tests)
rows_step i (k ∷ a ∷ x ∷ pair) rest e h = grind arith

abbrev Pairs : Type 0
Pairs = Enumerate (Chunks ℕ)

abbrev left : Pairs → List ℕ
left p = chunks_rest (enumerate_source p)

-- some pairs of lent rows were read: what is made of those that are left comes to what is made of all
abbrev pub Read : {B : Type 0} → List ℕ → Pairs → (List Row → B) → (List Row → B) → Type 0
Read lent p F G =
    (chunks_size (enumerate_source p) ≡ 2)
    × (length (left p) ≡ length lent - 2 * enumerate_count p)
    × (2 * enumerate_count p ≤ 1 + length lent)
    × (and_then (rows_from (2 + 2 * enumerate_count p) (left p)) (λ rs. Ok (F rs)) ≡ and_then (lent_rows lent) (λ rs. Ok (G rs)))

pub read_none : {B : Type 0} (lent : List ℕ) (p : Pairs) (F : List Row → B) → chunks_size (enumerate_source p) ≡ 2 → left p ≡ lent → enumerate_count p ≡ 0 → Read lent p F F
read_none lent p F size is i =
    (size, ap length is ∙ omega (arith, i), omega (arith, i), λ k. and_then (rows_from (2 + 2 * i k) (is k)) (λ rs. Ok (F rs)))

pub read_all : {B : Type 0} (lent : List ℕ) (p : Pairs) (F G : List Row → B) → Read lent p F G → length (left p) ≡ 0 → Ok (F []) ≡ and_then (lent_rows lent) (λ rs. Ok (G rs))
read_all lent p F G read e = ap (λ xs. and_then (rows_from (2 + 2 * enumerate_count p) xs) (λ rs. Ok (F rs))) (sym (nil_from_length (left p) e)) ∙ read.3

-- a pair more is read
module _ {B : Type 0} (lent : List ℕ) (p q : Pairs) (i : ℕ) (pair : Bor (List ℕ)) (F G : List Row → B)
    (read : Read lent p F G) (next : enumerate_steps (chunks_steps {A = ℕ}) p (Some (i, pair)) q) where
  sizes : length (left p) ≡ length pair.now + length (left q)
  sizes = ap length next.0.1.0 ∙ length-append pair.now (left q)

  two : length pair.now ≡ min 2 (length (left p))
  two = next.0.1.1 ∙ ap (λ n. min n (length (left p))) read.0

  step : rows_from (2 + 2 * enumerate_count p) (left p) ≡ and_then (row_from (2 + 2 * i) pair.now) (λ r. and_then (rows_from (2 + 2 * enumerate_count q) (left q)) (λ rs. Ok (r ∷ rs)))
  step =
      let one = rows_step (2 + 2 * enumerate_count p) pair.now (left q) (two ∙ ap (λ xs. min 2 (length xs)) next.0.1.0) (omega (arith, next.0.1.2, ap length next.0.1.0)) in
      let here : 2 + 2 * enumerate_count p ≡ 2 + 2 * i = omega (arith, next.1) in
      let more : 2 + (2 + 2 * enumerate_count p) ≡ 2 + 2 * enumerate_count q = omega (arith, next.2) in
      ap (rows_from (2 + 2 * enumerate_count p)) next.0.1.0 ∙ one ∙ λ k. and_then (row_from (here k) pair.now) (λ r. and_then (rows_from (more k) (left q)) (λ rs. Ok (r ∷ rs)))

  pub read_more : (F' : List Row → B) (r : Row) → Ok r ≡ row_from (2 + 2 * i) pair.now → ((rs : List Row) → F' rs ≡ F (r ∷ rs)) → Read lent q F' G
  read_more F' r e same =
      let rest = rows_from (2 + 2 * enumerate_count q) (left q) in
      let all : rows_from (2 + 2 * enumerate_count p) (left p) ≡ and_then rest (λ rs. Ok (r ∷ rs)) = step ∙ ap (λ z. and_then z (λ r. and_then rest (λ rs. Ok (r ∷ rs)))) (sym e) in (
        next.0.0 ∙ read.0,
        omega (arith, next.2, two, sizes, read.1),
        omega (arith, next.2, next.0.1.2, read.1),
        and_then_same rest _ _ (λ rs. ap Ok (same rs)) ∙ sym (and_then_cons rest r F) ∙ ap (λ z. and_then z (λ rs. Ok (F rs))) (sym all) ∙ read.3,
      )
