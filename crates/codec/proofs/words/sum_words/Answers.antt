use Rattle.std.proofs.Common.{rules, ◌≡◌, ◌+◌, ◌%◌, ◌^◌, ◌∙◌}
use Rattle.std.specs.Prelude.{fold}
use Rattle.codec.specs.Words.{le}
use Rattle.codec.proofs.WordLaws.{sum_folded}
use Rattle.codec.proofs.words.sum_words.Goals as goal

pub returns : goal.returns
returns c =
    let folded : c.fold.result ≡ fold (λ t w. (t + le w) % 2 ^ 64) 0 c.args.words.now = search rules in
    folded ∙ sum_folded c.args.words.now
