use Rattle.std.proofs.Common.{◌≡◌, ◌+◌, ◌-◌, min, map, vec_items, ap, ◌∙◌, arith}
use Rattle.std.proofs.lemmas.List.{map_push}
use Rattle.codec.specs.Entries.{entry_of}
use Rattle.rows.specs.declared.refusal.Refusal.TheVariants.{DamagedEntry}
use Rattle.store.specs.Memory.{log_in}
use Rattle.store.specs.StoreLaws.{entry_under}
use Rattle.versions.specs.Gathering.{behind, gathered, counting}
use Rattle.versions.specs.Histories.{entry_found, history_in}
use Rattle.versions.proofs.GatherLaws.{gather_start, gather_go, gather_stop, gather_end, counting_more, counting_end}
use Rattle.versions.proofs.HistoryLaws.{found_some, found_none}
use Rattle.versions.proofs.history.History.open.Goals as goal

pub loop-place-init : goal.loop-place-init
unfolding history_in
loop-place-init c =
    let l = log_in c.args.store.now c.args.log in
    let end = c.min-place-end.result in
    let all : end - 0 ≡ min c.args.version c.args.store.now.entries = omega (arith, c.min-place-end.ensures, c.entries.ensures) in
    ap (λ es. behind (map entry_of es) (gathered (entry_found l) DamagedEntry (counting (end - 0) 0))) c.new-entries.ensures.items
    ∙ gather_start (entry_found l) DamagedEntry (counting (end - 0) 0) ∙ ap (λ n. gathered (entry_found l) DamagedEntry (counting n 0)) all

pub returns-in_default : goal.returns-in_default
returns-in_default c =
    let l = log_in c.args.store.now c.args.log in
    let i = c.loop-place.place in
    let none = found_none c.in_ok-entry.field-0 (entry_under l i) c.in_ok-entry.ensures c.in_default.is in
    gather_stop (entry_found l) DamagedEntry (map entry_of (vec_items c.loop-place.entries)) _ _ c.loop-place.invariant i _ (counting_more c.min-place-end.result i (omega arith)) none

pub loop-place-preserved : goal.loop-place-preserved
loop-place-preserved c =
    let l = log_in c.args.store.now c.args.log in
    let i = c.loop-place.place in
    let x = c.in-Some.entry in
    let old = vec_items c.loop-place.entries in
    let some = found_some c.in_ok-entry.field-0 (entry_under l i) c.in_ok-entry.ensures x c.in-Some.is in
    let rest = gathered (entry_found l) DamagedEntry (counting (c.min-place-end.result - (i + 1)) (i + 1)) in
    ap (λ es. behind es rest) (ap (map entry_of) c.in_ok-push.ensures.items ∙ map_push entry_of old x)
    ∙ gather_go (entry_found l) DamagedEntry (map entry_of old) _ _ c.loop-place.invariant i _ _ (counting_more c.min-place-end.result i (omega arith)) some

pub returns : goal.returns
returns c =
    let l = log_in c.args.store.now c.args.log in
    gather_end (entry_found l) DamagedEntry (map entry_of (vec_items c.loop-place.entries)) _ _ c.loop-place.invariant (counting_end c.min-place-end.result c.loop-place.place (omega arith))
