use Rattle.std.proofs.Common.{◌≡◌, ◌-◌, map, vec_items}
use Rattle.codec.specs.Entries.{entry_of}
use Rattle.rows.specs.declared.refusal.Refusal.TheVariants.{DamagedEntry}
use Rattle.store.specs.Memory.{log_in}
use Rattle.versions.specs.Gathering.{behind, gathered, counting}
use Rattle.versions.specs.Histories.{entry_found, history_in}
use Rattle.versions.proofs.history.History.open.Given as goal

abbrev pub invariant-loop-place : goal.invariant-loop-place
invariant-loop-place l =
    let log = log_in l.store l.log in
    behind (map entry_of (vec_items l.entries)) (gathered (entry_found log) DamagedEntry (counting (l.place-end - l.place) l.place)) ≡ history_in log l.version
