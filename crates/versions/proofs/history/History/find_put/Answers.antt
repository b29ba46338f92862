use Rattle.std.proofs.Common.{◌≡◌, vec_items, ◌∙◌, rules}
use Rattle.std.specs.List.{position}
use Rattle.std.proofs.lemmas.Iterator.{YieldsList-from_slice}
use Rattle.std.proofs.lemmas.Iterator.Search.{position_from_yields_List}
use Rattle.versions.proofs.HistoryLaws.{held_put, put_placed}
use Rattle.versions.proofs.history.History.find_put.Goals as goal
use borrow.Author.Tests.{tests}

pub returns : goal.returns
returns c =
    let xs = vec_items c.args.self.now.entries in
    let here : c.position.result ≡ position (held_put c.args.writer c.args.serial) xs =
    position_from_yields_List (held_put c.args.writer c.args.serial) _ _ c.position.result c.position.ensures.ran (YieldsList-from_slice xs (search rules)) (λ x b q k. search (rules, tests)) in
    let same : c.map.result ≡ c.position.result = search rules in
    same ∙ here ∙ put_placed c.args.writer c.args.serial xs
