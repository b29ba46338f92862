use Rattle.std.proofs.Common.{◌≡◌, ◌∙◌, rules}
use Rattle.std.proofs.lemmas.Iterator.Consumers.{YieldsList-at, YieldsList-from_first, YieldsList-from_filter, count_from_yields_List}
use Rattle.std.proofs.lemmas.List.Sums.{length-filter}
use Rattle.rows.specs.Rows.{within, many_within}
use Rattle.codec.specs.Files.{rows_left}
use Rattle.codec.specs.Rewrites.{rows_in}
use Rattle.codec.proofs.RewriteLaws.{rows_from_there}
use Rattle.versions.proofs.held.Held.count_inside.Goals as goal
use borrow.Author.Tests.{tests}

pub returns : goal.returns
unfolding many_within
returns c =
    let held = c.args.self.now in
    let rows : rows_left c.of.result ≡ rows_in held.bytes.now = c.of.ensures.rows ∙ rows_from_there held.bytes.now held.whole.0 in
    count_from_yields_List c.filter.result c.count.result c.count.ensures.ran
    (YieldsList-from_filter _ (within c.args.span) (YieldsList-at c.filter.ensures.source (YieldsList-from_first (λ x. x) rows_left (rows_in held.bytes.now) rows)) c.filter.ensures.closure (λ x r q k. search (rules, tests)))
    ∙ length-filter (within c.args.span) (rows_in held.bytes.now)
