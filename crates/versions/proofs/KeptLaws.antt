-- Which versions are kept, in numbers.
use Rattle.std.proofs.Common.{◌≡◌, ℕ, ◌+◌, ◌≤◌, true, leb, arith}
use Rattle.std.proofs.lemmas.Bool.{leb-true, le-leb, and_parts, and_from}
use Rattle.versions.specs.Kept.{kept}

module _ (h n v : ℕ) where
  pub kept_parts : kept h n v ≡ true → (v ≤ n) × (n ≤ v + h)
  unfolding kept
  kept_parts e =
      let p = and_parts (leb v n) (leb n (v + h)) e in
      (leb-true v n p.0, leb-true n (v + h) p.1)

  pub kept_from : v ≤ n → n ≤ v + h → kept h n v ≡ true
  unfolding kept
  kept_from low high = and_from (leb v n) (leb n (v + h)) (le-leb v n low) (le-leb n (v + h) high)

pub kept_newest : (h n : ℕ) → kept h n n ≡ true
kept_newest h n = kept_from h n n (omega arith) (omega arith)

-- a version that is kept was kept before, if it was there, and so is every later one
pub kept_before : (h n m v : ℕ) → v ≤ n → n ≤ m → kept h m v ≡ true → kept h n v ≡ true
kept_before h n m v low grown e = let p = kept_parts h m v e in kept_from h n v low (omega (arith, p.1))

pub kept_later : (h n v k : ℕ) → v ≤ k → k ≤ n → kept h n v ≡ true → kept h n k ≡ true
kept_later h n v k later low e = let p = kept_parts h n v e in kept_from h n k low (omega (arith, p.1))
