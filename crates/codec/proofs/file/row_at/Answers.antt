use Rattle.std.proofs.Common.{◌≡◌, ◌/◌, ◌<◌, length, drop, map, get_or, sym, ap, ◌∙◌, arith}
use Rattle.std.proofs.lemmas.List.{get_or-map, length-map}
use Rattle.std.proofs.lemmas.Bool.{ltb-true}
use Rattle.rows.specs.Numbers.{row}
use Rattle.codec.specs.Words.{numbers, words_of}
use Rattle.codec.specs.Files.{pairs, row_read, row_fitting}
use Rattle.codec.proofs.FileReads.{row_past, row_in_pairs}
use Rattle.codec.proofs.WordLaws.{chunk_numbers}
use Rattle.codec.proofs.file.row_at.Goals as goal

pub returns-in_err-get : goal.returns-in_err-get
returns-in_err-get c =
    let xs = c.args.bytes.now in
    let P = c.pairs_in.result.now in
    let are : map row_read P ≡ pairs (drop 3 (words_of xs)) =
    c.pairs_in.ensures ∙ ap (λ l. pairs (drop 3 (numbers l))) c.as_chunks.ensures.front ∙ ap (λ l. pairs (drop 3 l)) (chunk_numbers (length xs / 8) xs) in
    c.from_residual.ensures ∙ row_past (words_of xs) c.args.i (omega (arith, ap length are, length-map P row_read, c.in_err-get.ensures.lookup))

pub returns : goal.returns
returns c =
    let xs = c.args.bytes.now in
    let i = c.args.i in
    let P = c.pairs_in.result.now in
    let found = c.in_ok-get.ensures.lookup in
    let are : map row_read P ≡ pairs (drop 3 (words_of xs)) =
    c.pairs_in.ensures ∙ ap (λ l. pairs (drop 3 (numbers l))) c.as_chunks.ensures.front ∙ ap (λ l. pairs (drop 3 l)) (chunk_numbers (length xs / 8) xs) in
    let there : i < length P = ltb-true _ _ (sym found.0) in
    c.row_from.ensures
    ∙ ap (λ p. row_fitting (row_read p)) found.1
    ∙ ap row_fitting (sym (get_or-map row_read P i c.in_ok-get.field-0.now (row 0 0) there) ∙ ap (λ rs. get_or rs i (row 0 0)) are)
    ∙ row_in_pairs (words_of xs) i (row 0 0) (omega (arith, there, ap length are, length-map P row_read))
