-- Laws of what orders do.
use Rattle.std.proofs.Common.{◌≡◌, ℕ, ◌+◌, ◌<◌, ◌≤◌, ◌&&◌, ◌||◌, leb, List, [], ◌∷◌, ◌++◌, length, get_or, take, drop, Some, Ok, Err, Result, sym, refl, ap, ◌∙◌, append_assoc, append-nil, zero-add, arith}
use Rattle.std.proofs.lemmas.List.{take_all, at_drop_more, at_drop_all}
use Rattle.std.proofs.lemmas.Bool.Decides.{nat_tests}
use Rattle.rows.specs.declared.refusal.Refusal.{Refusal}
use Rattle.rows.specs.declared.row.Row.{Row}
use Rattle.rows.specs.declared.span.Span.{Span}
use Rattle.rows.specs.Checks.{and_then}
use Rattle.rows.specs.Laws.{RowOrderMeansNothing}
use Rattle.rows.specs.Orders.{Order, insert, erase, raise, pack, done_to, touched, passes_limit, Outcome, applied}
use Rattle.rows.specs.Rows.{amount_limit, within, raised, raised_row, many_within, Alike}
use Rattle.rows.proofs.Rows.{alike_refl, alike_append, outside_alike, raised_alike, many_alike}

-- an insert that has so many rows in, and what is left
abbrev pub outcome_so_far : List Row → ℕ → List Row → Outcome
outcome_so_far all i rs = record { rows = all ++ rs; touched = i + length rs }

pub one_row_in : (all all' : List Row) (i : ℕ) (r : Row) (rs : List Row) → all' ≡ all ++ r ∷ [] → outcome_so_far all' (i + 1) rs ≡ outcome_so_far all i (r ∷ rs)
one_row_in all all' i r rs e =
    let rows : all' ++ rs ≡ all ++ r ∷ rs = ap (λ l. l ++ rs) e ∙ append_assoc all (r ∷ []) rs in
    let count : i + 1 + length rs ≡ i + length (r ∷ rs) = omega arith in
    λ k. record { rows = rows k; touched = count k }

pub all_rows_in : (all : List Row) (i n : ℕ) → i ≡ n → record { rows = all; touched = n } ≡ outcome_so_far all i []
all_rows_in all i n e =
    let rows = append-nil all in
    let count : n ≡ i + 0 = omega arith in
    λ k. record { rows = sym rows k; touched = count k }

pub insert_applied : (r : Result (List Row) Refusal) (xs : List Row) → and_then r (λ rs. Ok (outcome_so_far xs 0 rs)) ≡ and_then (and_then r (λ rs. Ok (insert rs))) (λ o. applied o xs)
unfolding done_to touched
insert_applied (Ok rs) xs = let n = zero-add (length rs) in ap Ok (λ k. record { rows = xs ++ rs; touched = n k })
insert_applied (Err e) xs = refl

pub raise_applied : (s : Span) (n : ℕ) (xs rows : List Row) (i count : ℕ) → length xs ≤ i → count ≡ many_within s xs → rows ≡ raised s n (take i xs) → passes_limit s n (drop i xs) ≡ passes_limit s n xs
    → Ok (record { rows = rows; touched = count }) ≡ applied (raise s n) xs
unfolding done_to touched
raise_applied s n xs rows i count end many e limit = let all = take_all i xs end in cc (all, e, many, limit, at_drop_all (passes_limit s n) xs i end)

pub done_alike : (o : Order) (xs ys : List Row) → Alike xs ys → Alike (done_to o xs) (done_to o ys)
unfolding done_to
done_alike (insert new) xs ys h = alike_append xs ys new new h (alike_refl new)
done_alike (erase s) xs ys h = outside_alike s xs ys h
done_alike (raise s n) xs ys h = raised_alike s n xs ys h
done_alike (pack m) xs ys h = h

pub touched_alike : (o : Order) (xs ys : List Row) → Alike xs ys → touched o xs ≡ touched o ys
unfolding touched
touched_alike (insert new) xs ys h = refl
touched_alike (erase s) xs ys h = many_alike s xs ys h
touched_alike (raise s n) xs ys h = many_alike s xs ys h
touched_alike (pack m) xs ys h = refl

pub row_order_means_nothing : RowOrderMeansNothing
row_order_means_nothing o xs ys h = (done_alike o xs ys h, touched_alike o xs ys h)

-- whether a raise meets its limit, as a loop over rows finds out
module _ (s : Span) (n : ℕ) (xs : List Row) (i : ℕ) (d : Row) (h : i < length xs) where
  limit_step : passes_limit s n (drop i xs) ≡ ((within s (get_or xs i d) && leb amount_limit ((get_or xs i d).amount + n)) || passes_limit s n (drop (i + 1) xs))
  limit_step = at_drop_more (passes_limit s n) xs i d h

  pub limit_more : (r : Row) → Some r ≡ raised_row s n (get_or xs i d) → passes_limit s n (drop (i + 1) xs) ≡ passes_limit s n (drop i xs)
  limit_more r e = let step = limit_step in grind (arith, nat_tests)
