use Rattle.std.proofs.Common.{Ok, vec_items, ap, arith}
use Rattle.std.proofs.lemmas.List.{length-map}
use Rattle.codec.specs.Entries.{LogEntry, entry_of, change_of}
use Rattle.versions.specs.Histories.{entries_of, changes, live_of}
use Rattle.versions.proofs.HistoryLaws.{entry_stands, change_stands, alive_go, alive_end}
use Rattle.versions.proofs.history.History.live.Goals as goal

pub loop-entry-preserved : goal.loop-entry-preserved
loop-entry-preserved c =
    let es = entries_of c.args.self.now in
    let i = c.loop-entry.entry-index in
    let x = c.entry-item.result in
    let s = entry_stands c.deref-entry-items.result.now (vec_items c.args.self.now.entries) i x c.deref-entry-items.ensures.value (omega arith) c.entry-item.is in
    alive_go (changes es) i (change_of x.change) _ _ _ (change_stands es i (entry_of x) s) c.in_ok-apply_change.ensures c.loop-entry.invariant

pub returns : goal.returns
unfolding live_of
returns c =
    let held = vec_items c.args.self.now.entries in
    let es = entries_of c.args.self.now in
    ap Ok (alive_end (changes es) c.loop-entry.entry-index _ _ (omega (arith, length-map es (λ (e : LogEntry). e.change), length-map held entry_of, c.deref-entry-items.ensures.len)) c.loop-entry.invariant)
