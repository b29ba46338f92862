use Rattle.std.proofs.Common.{◌≡◌, eqb, vec_items, count_by, ◌∙◌, rules}
use Rattle.codec.specs.declared.entry.Entry.{Entry}
use Rattle.versions.proofs.HistoryLaws.{puts_counted}
use Rattle.versions.proofs.history.History.written_by.Goals as goal

pub returns : goal.returns
returns c =
    let counted : c.count.result ≡ count_by (λ (e : Entry). eqb e.writer c.args.writer) (vec_items c.args.self.now.entries) = search rules in
    counted ∙ puts_counted c.args.writer (vec_items c.args.self.now.entries)
