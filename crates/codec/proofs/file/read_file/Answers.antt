use Rattle.std.proofs.Common.{◌≡◌, cond, Some, None, drop, sym, ap, ◌∙◌}
use Rattle.std.specs.Option.{option_map}
use Rattle.codec.specs.Seals.{unsealed}
use Rattle.codec.specs.Words.{numbers}
use Rattle.codec.specs.Files.{pairs, row_fits}
use Rattle.codec.specs.Bounds.{every}
use Rattle.codec.proofs.BoundLaws.{then_some_is}
use Rattle.codec.proofs.FileReads.{all_fit, file_not_sealed, file_headless, file_told}
use Rattle.codec.proofs.file.read_file.Goals as goal

pub returns-in_err-words : goal.returns-in_err-words
returns-in_err-words c = c.from_residual.ensures ∙ file_not_sealed c.args.bytes.now (sym c.unseal.ensures ∙ ap (option_map (λ front. numbers front.now)) c.in_err-words.was)

pub returns-in_err-head : goal.returns-in_err-head
returns-in_err-head c =
    let sealed : unsealed c.args.bytes.now ≡ Some (numbers c.in_ok-words.words.now) = sym c.unseal.ensures ∙ ap (option_map (λ front. numbers front.now)) c.in_ok-words.was in
    c.from_residual-in_err-head.ensures ∙ file_headless c.args.bytes.now _ sealed (sym c.in_err-head.was ∙ c.head_in.ensures)

pub returns : goal.returns
returns c =
    let sealed : unsealed c.args.bytes.now ≡ Some (numbers c.in_ok-words.words.now) = sym c.unseal.ensures ∙ ap (option_map (λ front. numbers front.now)) c.in_ok-words.was in
    let fit : c.rows_fit.result ≡ every row_fits (pairs (drop 3 (numbers c.in_ok-words.words.now))) = c.rows_fit.ensures ∙ all_fit c.pairs_in.result.now ∙ ap (every row_fits) c.pairs_in.ensures in
    c.then_some.ensures
    ∙ then_some_is c.rows_fit.result c.in_ok-head.head
    ∙ ap (λ b. cond b (Some c.in_ok-head.head) None) fit
    ∙ file_told c.args.bytes.now _ sealed c.in_ok-head.head (sym c.in_ok-head.was ∙ c.head_in.ensures)
