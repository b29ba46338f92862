use Rattle.std.proofs.Common.{sym, arith}
use Rattle.std.proofs.lemmas.Bool.Decides.{nat_tests}
use Rattle.codec.specs.Bounds.{is_key}
use Rattle.codec.proofs.BoundLaws.{every_from_getD}
use Rattle.codec.proofs.EntryWrites.{files_counted}
use Rattle.codec.proofs.entry.files_words.Goals as goal

pub returns : goal.returns
returns c =
    let takes = c.args.takes.now in
    files_counted c.args.adds.now takes c.count_words.result (sym c.if-not-all_fit.ensures) (every_from_getD is_key takes 0 (λ i h. let b = (c.type_inv.takes i).fits in grind (arith, nat_tests))) c.count_words.ensures
