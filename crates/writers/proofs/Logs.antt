-- Laws of a log that grows: its versions, its orders in turn, and what each writer put.
use Rattle.std.proofs.Common.{◌≡◌, ℕ, ◌+◌, ◌<◌, ◌≤◌, cond, eqb, ◌⊎◌, List, [], ◌∷◌, ◌++◌, length, get_or, take, drop, sym, refl, ap, ◌∙◌, inl, inr, append_assoc, append-nil, arith}
use Rattle.std.proofs.lemmas.List.{length-append, length_push, length-map, map-append, map_push, take-append-le, take_more, get_or_append_left, get_or_push, get_or-map}
use Rattle.std.proofs.lemmas.List.Sums.{sum_by_push}
use Rattle.std.proofs.lemmas.Bool.{cases_lt}
use Rattle.rows.specs.declared.row.Row.{Row}
use Rattle.rows.specs.Orders.{Order, done_to}
use Rattle.versions.specs.Alive.{numbers, after, alive, version}
use Rattle.versions.specs.VersionLaws.{Stands, all_added, tally}
use Rattle.versions.proofs.AliveLaws.{added_one, versions_are_fixed, version_new, version_newest}
use Rattle.writers.specs.Model.{Entry, changes_of, orders_of, own_puts}
use Rattle.writers.specs.WriterLaws.{in_turn}

-- a log that is another one with more behind
abbrev pub Grown : List Entry → List Entry → Type 0
Grown es fs = (more : List Entry) × (fs ≡ es ++ more)

pub grown_same : (es : List Entry) → Grown es es
grown_same es = ([], sym (append-nil es))

pub grown_trans : (es fs gs : List Entry) → Grown es fs → Grown fs gs → Grown es gs
grown_trans es fs gs a b = (a.0 ++ b.0, b.1 ∙ ap (λ z. z ++ b.0) a.1 ∙ append_assoc es a.0 b.0)

pub grown_length : (es fs : List Entry) → Grown es fs → length es ≤ length fs
grown_length es fs g = omega (arith, ap length g.1, length-append es g.0)

-- a version up to the end of a log is one of the longer log too
module _ (es more : List Entry) (v : ℕ) (h : v ≤ length es) where
  pub version_old : version (changes_of (es ++ more)) v ≡ version (changes_of es) v
  version_old =
      ap (λ z. version z v) (map-append (λ e. e.change) es more)
      ∙ versions_are_fixed (changes_of es) (changes_of more) v (omega (arith, length-map es (λ e. e.change)))

  pub turns_old : in_turn (take v (orders_of (es ++ more))) [] ≡ in_turn (take v (orders_of es)) []
  turns_old =
      ap (λ z. in_turn (take v z) []) (map-append (λ e. e.order) es more)
      ∙ ap (λ z. in_turn z []) (take-append-le v (orders_of es) (orders_of more) (omega (arith, length-map es (λ e. e.order))))

-- from a version on to the newest
pub version_since : (es : List Entry) (v : ℕ) → version (changes_of es) (length es) ≡ alive (drop v (changes_of es)) (version (changes_of es) v)
version_since es v = ap (version (changes_of es)) (sym (length-map es (λ e. e.change))) ∙ version_newest (changes_of es) v

-- one order more
pub in_turn_push : (os : List Order) (o : Order) (rs : List Row) → in_turn (os ++ o ∷ []) rs ≡ done_to o (in_turn os rs)
unfolding in_turn
in_turn_push [] o rs = refl
in_turn_push (p ∷ os) o rs = in_turn_push os o (done_to p rs)

pub turns_next : (es : List Entry) (k : ℕ) (e : Entry) → Stands es k e → in_turn (take (k + 1) (orders_of es)) [] ≡ done_to e.order (in_turn (take k (orders_of es)) [])
turns_next es k e s =
    let o = λ (x : Entry). x.order in
    ap (λ z. in_turn z []) (take_more (orders_of es) k e.order (omega (arith, length-map es o, s.0)))
    ∙ in_turn_push (take k (orders_of es)) (get_or (orders_of es) k e.order) []
    ∙ ap (λ z. done_to z (in_turn (take k (orders_of es)) [])) (get_or-map o es k e e.order s.0 ∙ ap o s.1)

-- one entry more
module _ (es : List Entry) (e : Entry) where
  pub version_push : version (changes_of (es ++ e ∷ [])) (length es + 1) ≡ after (version (changes_of es) (length es)) e.change
  version_push =
      let n = length-map es (λ x. x.change) in
      ap (λ z. version z (length es + 1)) (map_push (λ x. x.change) es e)
      ∙ ap (λ k. version (changes_of es ++ e.change ∷ []) (k + 1)) (sym n)
      ∙ version_new (changes_of es) e.change
      ∙ ap (λ k. after (version (changes_of es) k) e.change) n

  pub turns_push : in_turn (take (length es + 1) (orders_of (es ++ e ∷ []))) [] ≡ done_to e.order (in_turn (take (length es) (orders_of es)) [])
  turns_push =
      turns_next (es ++ e ∷ []) (length es) e (omega (arith, length_push es e), get_or_push es e e (length es) refl)
      ∙ ap (done_to e.order) (turns_old es (e ∷ []) (length es) (omega arith))

  pub added_push : (n : ℕ) → tally n (all_added (changes_of (es ++ e ∷ []))) ≡ tally n (all_added (changes_of es)) + tally n (numbers e.change.adds)
  added_push n = ap (λ z. tally n (all_added z)) (map_push (λ x. x.change) es e) ∙ added_one n (changes_of es) e.change

  pub own_push : (w : ℕ) → own_puts w (es ++ e ∷ []) ≡ own_puts w es + cond (eqb e.writer w) 1 0
  unfolding own_puts
  own_push w = sum_by_push (λ x. cond (eqb x.writer w) 1 0) es e

  pub length_cases : (k : ℕ) → k ≤ length (es ++ e ∷ []) → (k ≤ length es) ⊎ (k ≡ length es + 1)
  length_cases k h = go (cases_lt (length es) k)
    where
      go : (length es < k) ⊎ (k ≤ length es) → (k ≤ length es) ⊎ (k ≡ length es + 1)
      go (inl p) = inr (omega (arith, length_push es e))
      go (inr p) = inl p

  pub stands_cases : (k : ℕ) (f : Entry) → Stands (es ++ e ∷ []) k f → Stands es k f ⊎ ((k ≡ length es) × (e ≡ f))
  stands_cases k f s = go (cases_lt k (length es))
    where
      go : (k < length es) ⊎ (length es ≤ k) → Stands es k f ⊎ ((k ≡ length es) × (e ≡ f))
      go (inl p) = inl (p, sym (get_or_append_left es (e ∷ []) f k p) ∙ s.1)
      go (inr p) =
          let here : k ≡ length es = omega (arith, length_push es e, s.0) in
          inr (here, sym (get_or_push es e f k (sym here)) ∙ s.1)
