use Rattle.std.proofs.Common.{◌≡◌, ◌%◌, length, sym, ap, ◌∙◌, arith}
use Rattle.std.specs.Option.{option_map}
use Rattle.std.proofs.lemmas.Bool.{eqb-true}
use Rattle.std.proofs.lemmas.Bool.Decides.{nat_tests}
use Rattle.codec.specs.Words.{numbers}
use Rattle.codec.proofs.BoundLaws.{then_some_of}
use Rattle.codec.proofs.SealLaws.{unsealed_odd, unsealed_empty, unsealed_by_sum}
use Rattle.codec.proofs.seal.unseal.Goals as goal

pub returns-then-not-is_empty : goal.returns-then-not-is_empty
returns-then-not-is_empty c =
    let odd = c.if-not-is_empty.ensures in
    let back = c.as_chunks.ensures.back_len in
    sym (unsealed_odd c.args.bytes.now (λ e. grind (arith, nat_tests)))

pub returns-in_err-sum : goal.returns-in_err-sum
returns-in_err-sum c =
    let xs = c.args.bytes.now in
    let whole : length xs % 8 ≡ 0 = sym c.as_chunks.ensures.back_len ∙ eqb-true _ 0 (sym c.if-not-is_empty.ensures) in
    ap (option_map (λ front. numbers front.now)) c.from_residual.ensures ∙ sym (unsealed_empty xs whole (sym c.as_chunks.ensures.front_len ∙ c.in_err-sum.ensures.cases))

pub returns : goal.returns
returns c =
    let xs = c.args.bytes.now in
    let whole : length xs % 8 ≡ 0 = sym c.as_chunks.ensures.back_len ∙ eqb-true _ 0 (sym c.if-not-is_empty.ensures) in
    let parts = sym c.as_chunks.ensures.front ∙ c.in_ok-sum.ensures.cases.0 in
    let same = unsealed_by_sum xs c.in_ok-sum.front.now c.in_ok-sum.sum.now whole parts in
    ap (option_map (λ front. numbers front.now)) c.then_some.ensures
    ∙ then_some_of (λ front. numbers front.now) _ c.in_ok-sum.front
    ∙ cc (same, c.number.ensures, c.sum_words.ensures)
