use Rattle.std.proofs.Common.{◌≡◌, ◌∙◌, rules}
use Rattle.std.proofs.lemmas.Iterator.Consumers.{YieldsList-from_first}
use Rattle.std.proofs.lemmas.Iterator.Adapters.{items_from_extend}
use Rattle.codec.specs.Files.{rows_left}
use Rattle.codec.specs.Rewrites.{rows_in}
use Rattle.codec.proofs.RewriteLaws.{rows_from_there}
use Rattle.versions.proofs.held.Held.push_rows.Goals as goal

pub returns : goal.returns
returns c =
    let held = c.args.self.now in
    let rows : rows_left c.of.result ≡ rows_in held.bytes.now = c.of.ensures.rows ∙ rows_from_there held.bytes.now held.whole.0 in
    let pushed = items_from_extend c.extend.result c.extend.ensures.ran (YieldsList-from_first (λ x. x) rows_left (rows_in held.bytes.now) rows) in
    search rules
