use Rattle.std.proofs.Common.{◌/◌, length, drop, map, ap, ◌∙◌, arith}
use Rattle.std.proofs.lemmas.List.{length-map}
use Rattle.codec.specs.Words.{numbers}
use Rattle.codec.specs.Files.{pairs, row_read, fitting}
use Rattle.codec.proofs.FileReads.{fitting_few}
use Rattle.codec.proofs.WordLaws.{chunk_numbers}
use Rattle.codec.proofs.file.Rows.of.Goals as goal

pub returns-clause-rows : goal.returns-clause-rows
returns-clause-rows c =
    let xs = c.args.bytes.now in
    ap fitting (c.pairs_in.ensures ∙ ap (λ l. pairs (drop 3 (numbers l))) c.as_chunks.ensures.front ∙ ap (λ l. pairs (drop 3 l)) (chunk_numbers (length xs / 8) xs))

pub returns-clause-bound : goal.returns-clause-bound
returns-clause-bound c = let P = c.pairs_in.result.now in omega (arith, fitting_few (map row_read P), length-map P row_read)
