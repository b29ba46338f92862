-- Laws of spans.
use Rattle.std.proofs.Common.{◌≡◌, ℕ, ◌<◌, ◌≤◌, true, ◌⊎◌, inl, inr, arith}
use Rattle.std.proofs.lemmas.Bool.{cases_lt}
use Rattle.std.proofs.lemmas.Bool.Decides.{nat_tests}
use Rattle.rows.specs.declared.span.Span.{Span}
use Rattle.rows.specs.Laws.{OverlappingIsSharingAKey}
use Rattle.rows.specs.Spans.{contains_key, overlap, ShareAKey}

-- the larger of two first keys lies in both
pub overlap_shares : (a b : Span) → overlap a b ≡ true → ShareAKey a b
overlap_shares a b e = go (cases_lt a.from b.from)
  where
    go : (a.from < b.from) ⊎ (b.from ≤ a.from) → ShareAKey a b
    go (inl h) = (b.from, grind (arith, nat_tests), grind (arith, nat_tests))
    go (inr h) = (a.from, grind (arith, nat_tests), grind (arith, nat_tests))

pub shares_overlap : (a b : Span) → ShareAKey a b → overlap a b ≡ true
shares_overlap a b s = go s.0 s.1 s.2
  where
    go : (k : ℕ) → contains_key a k ≡ true → contains_key b k ≡ true → overlap a b ≡ true
    go k p q = grind (arith, nat_tests)

pub overlapping_is_sharing_a_key : OverlappingIsSharingAKey
overlapping_is_sharing_a_key a b = (overlap_shares a b, shares_overlap a b)
