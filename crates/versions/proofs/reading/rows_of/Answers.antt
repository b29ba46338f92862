use Rattle.std.proofs.Common.{◌+◌, ◌++◌, get_or, drop, vec_items, sym, ap, ◌∙◌, arith}
use Rattle.std.specs.Option.{option_map}
use Rattle.std.proofs.lemmas.List.{drop_more, drop_all}
use Rattle.std.proofs.lemmas.Result.{err_from_is_err_and}
use Rattle.rows.specs.declared.refusal.Refusal.TheVariants.{DamagedFile}
use Rattle.codec.specs.Rewrites.{rows_in}
use Rattle.store.specs.Memory.{files_in}
use Rattle.versions.specs.FilesHeld.{stored_rows, rows_found, rows_held}
use Rattle.versions.specs.Gathering.{behind, gathered}
use Rattle.versions.proofs.GatherLaws.{gather_go, gather_stop, gather_end}
use Rattle.versions.proofs.reading.rows_of.Goals as goal

pub returns-in_err-held : goal.returns-in_err-held
unfolding rows_held
returns-in_err-held c =
    let s = files_in c.args.store.now c.args.files in
    let ns = c.args.numbers.now in
    let i = c.loop-number.number-index in
    let p = err_from_is_err_and c.from_residual.result c.from_residual.ensures.1 in
    rw (p.1, p.2, c.in_err-held.ensures.1)
    (gather_stop (rows_found s) DamagedFile (vec_items c.loop-number.rows) _ _ c.loop-number.invariant (get_or ns i 0) _ (drop_more ns i 0 (omega arith)) (ap (option_map (stored_rows s)) (sym c.in_err-held.ensures.0)))

pub loop-number-preserved : goal.loop-number-preserved
unfolding rows_held
loop-number-preserved c =
    let s = files_in c.args.store.now c.args.files in
    let ns = c.args.numbers.now in
    let i = c.loop-number.number-index in
    let held = c.in_ok-held.ensures in
    let rest = gathered (rows_found s) DamagedFile (drop (i + 1) ns) in
    let old = vec_items c.loop-number.rows in
    ap (λ l. behind l rest) (c.in_ok-push_rows.ensures ∙ ap (λ l. old ++ rows_in l) held.1)
    ∙ gather_go (rows_found s) DamagedFile old _ _ c.loop-number.invariant (get_or ns i 0) _ _ (drop_more ns i 0 (omega arith)) (ap (option_map (stored_rows s)) (sym held.0))

pub returns : goal.returns
unfolding rows_held
returns c =
    let s = files_in c.args.store.now c.args.files in
    gather_end (rows_found s) DamagedFile (vec_items c.loop-number.rows) _ _ c.loop-number.invariant (drop_all c.loop-number.number-index c.args.numbers.now (omega arith))
