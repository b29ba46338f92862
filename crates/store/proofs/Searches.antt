-- What a search among slots says of each of them.
use Rattle.std.proofs.Common.{◌≡◌, ℕ, zero, suc, ◌+◌, ◌<◌, ◌≤◌, Bool, true, false, cond, eqb, ◌⊎◌, List, Some, None, sym, refl, ap, ◌∙◌, inl, inr, arith}
use Rattle.std.proofs.lemmas.Bool.{eq-eqb, ne_eqb, eqb-true, eqb-false, cases_eq}
use Rattle.store.specs.Slots.{mark_at, first_from, slot_with}

first_same : (p q : ℕ → Bool) (n i : ℕ) → ((j : ℕ) → i ≤ j → j < i + n → p j ≡ q j) → first_from p n i ≡ first_from q n i
first_same p q zero i h = refl
first_same p q (suc n) i h =
    ap (λ b. cond b (Some i) (first_from p n (i + 1))) (h i (omega arith) (omega arith))
    ∙ ap (λ o. cond (q i) (Some i) o) (first_same p q n (i + 1) (λ j a b. h j (omega arith) (omega arith)))

first_no : (p : ℕ → Bool) (n i : ℕ) → ((j : ℕ) → i ≤ j → j < i + n → p j ≡ false) → first_from p n i ≡ None
first_no p zero i h = refl
first_no p (suc n) i h =
    ap (λ b. cond b (Some i) (first_from p n (i + 1))) (h i (omega arith) (omega arith)) ∙ first_no p n (i + 1) (λ j a b. h j (omega arith) (omega arith))

first_each : (p : ℕ → Bool) (n i : ℕ) → None ≡ first_from p n i → (j : ℕ) → i ≤ j → j < i + n → p j ≡ false
first_each p zero i e j a b = absurd (omega arith)
first_each p (suc n) i e j a b = by (p i) refl e (cases_eq i j) (λ q. first_each p n (i + 1) q j)
  where
    by : (t : Bool) → p i ≡ t → None ≡ cond t (Some i) (first_from p n (i + 1)) → (i ≡ j) ⊎ (i ≡ j → ⊥) → (None ≡ first_from p n (i + 1) → i + 1 ≤ j → j < i + 1 + n → p j ≡ false) → p j ≡ false
    by true g q w ih = absurd (let z : ◌≡◌ {A = ℕ} 0 1 = cc in omega arith)
    by false g q (inl w) ih = ap p (sym w) ∙ g
    by false g q (inr w) ih = ih q (omega arith) (omega arith)

first_bears : (p : ℕ → Bool) (n i j : ℕ) → Some j ≡ first_from p n i → p j ≡ true
first_bears p zero i j e = absurd (let z : ◌≡◌ {A = ℕ} 0 1 = cc in omega arith)
first_bears p (suc n) i j e = by (p i) refl e (first_bears p n (i + 1) j)
  where
    by : (t : Bool) → p i ≡ t → Some j ≡ cond t (Some i) (first_from p n (i + 1)) → (Some j ≡ first_from p n (i + 1) → p j ≡ true) → p j ≡ true
    by true g q ih = let k : j ≡ i = cc in ap p k ∙ g
    by false g q ih = ih q

first_only : (p : ℕ → Bool) (n i j : ℕ) → i ≤ j → j < i + n → p j ≡ true → ((k : ℕ) → i ≤ k → k < j → p k ≡ false) → first_from p n i ≡ Some j
first_only p zero i j a b e h = absurd (omega arith)
first_only p (suc n) i j a b e h = by (cases_eq i j) (first_only p n (i + 1) j)
  where
    by : (i ≡ j) ⊎ (i ≡ j → ⊥) → (i + 1 ≤ j → j < i + 1 + n → p j ≡ true → ((k : ℕ) → i + 1 ≤ k → k < j → p k ≡ false) → first_from p n (i + 1) ≡ Some j) → first_from p (suc n) i ≡ Some j
    by (inl w) ih = ap (λ t. cond t (Some i) (first_from p n (i + 1))) (ap p w ∙ e) ∙ ap Some w
    by (inr w) ih = ap (λ t. cond t (Some i) (first_from p n (i + 1))) (h i (omega arith) (omega arith)) ∙ ih (omega arith) (omega arith) e (λ k c d. h k (omega arith) d)

-- two directories in which the same slots have a mark
pub slot_same : (d c : List ℕ) (n x : ℕ) → ((j : ℕ) → j < n → eqb (mark_at d j) x ≡ eqb (mark_at c j) x) → slot_with d n x ≡ slot_with c n x
unfolding slot_with
slot_same d c n x h = first_same (λ i. eqb (mark_at d i) x) (λ i. eqb (mark_at c i) x) n 0 (λ j a b. h j (omega arith))

module _ (d : List ℕ) (n x : ℕ) where
  pub slot_none : ((j : ℕ) → j < n → mark_at d j ≡ x → ⊥) → slot_with d n x ≡ None
  unfolding slot_with
  slot_none h = first_no (λ i. eqb (mark_at d i) x) n 0 (λ j a b. ne_eqb (mark_at d j) x (h j (omega arith)))

  pub slot_each : None ≡ slot_with d n x → (j : ℕ) → j < n → mark_at d j ≡ x → ⊥
  unfolding slot_with
  slot_each e j h = eqb-false (mark_at d j) x (first_each (λ i. eqb (mark_at d i) x) n 0 e j (omega arith) (omega arith))

  pub slot_bears : (j : ℕ) → Some j ≡ slot_with d n x → mark_at d j ≡ x
  unfolding slot_with
  slot_bears j e = eqb-true (mark_at d j) x (first_bears (λ i. eqb (mark_at d i) x) n 0 j e)

  pub slot_only : (i : ℕ) → i < n → mark_at d i ≡ x → ((j : ℕ) → j < n → (j ≡ i → ⊥) → mark_at d j ≡ x → ⊥) → slot_with d n x ≡ Some i
  unfolding slot_with
  slot_only i l e h =
      first_only (λ j. eqb (mark_at d j) x) n 0 i (omega arith) (omega arith) (eq-eqb (mark_at d i) x e) (λ k a b. ne_eqb (mark_at d k) x (h k (omega arith) (λ q. omega arith)))
