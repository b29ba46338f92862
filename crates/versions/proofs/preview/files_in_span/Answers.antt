use Rattle.std.proofs.Common.{◌≡◌, ◌+◌, ◌++◌, length, get_or, drop, vec_items, sym, ap, ◌∙◌, arith}
use Rattle.std.specs.Option.{option_map}
use Rattle.std.proofs.lemmas.List.{drop_more, drop_all, append-nil}
use Rattle.std.proofs.lemmas.Result.{err_from_is_err_and}
use Rattle.rows.specs.declared.refusal.Refusal.TheVariants.{DamagedFile}
use Rattle.rows.specs.Rows.{many_within}
use Rattle.rows.proofs.Rows.{many_le_length}
use Rattle.codec.specs.Rewrites.{rows_in}
use Rattle.store.specs.Memory.{files_in}
use Rattle.versions.specs.Gathering.{behind, gathered}
use Rattle.versions.specs.Previews.{preview_of, preview_found, previews}
use Rattle.versions.proofs.GatherLaws.{gather_go, gather_stop, gather_end}
use Rattle.versions.proofs.PreviewLaws.{preview_yes, preview_no}
use Rattle.versions.proofs.preview.files_in_span.Goals as goal
use Rattle.versions.proofs.preview.files_in_span.Goals.{then-inside-gt0+in_ok-push, else-inside-gt0}

pub returns-in_err-held : goal.returns-in_err-held
unfolding previews
returns-in_err-held c =
    let s = files_in c.args.store.now c.args.files in
    let ns = c.args.numbers.now in
    let i = c.loop-number.number-index in
    let p = err_from_is_err_and c.from_residual.result c.from_residual.ensures.1 in
    rw (p.1, p.2, c.in_err-held.ensures.1)
    (gather_stop (preview_found s c.args.span) DamagedFile (vec_items c.loop-number.found) _ _ c.loop-number.invariant (get_or ns i 0) _ (drop_more ns i 0 (omega arith)) (ap (option_map (preview_of s c.args.span)) (sym c.in_err-held.ensures.0)))

pub overflow_sub-held : goal.overflow_sub-held
overflow_sub-held c =
    let held = c.in_ok-held.held in
    omega (arith, c.count_inside-inside.ensures, many_le_length c.args.span (rows_in held.bytes.now), held.whole.1)

pub loop-number-preserved : goal.loop-number-preserved
unfolding previews
loop-number-preserved c =
    let s = files_in c.args.store.now c.args.files in
    let span = c.args.span in
    let ns = c.args.numbers.now in
    let i = c.loop-number.number-index in
    let n = get_or ns i 0 in
    let held = c.in_ok-held.held in
    let under = c.in_ok-held.ensures in
    let x = held.file in
    let inside = c.count_inside-inside.ensures ∙ ap (λ l. many_within span (rows_in l)) under.1 in
    let rows = sym (ap (λ l. length (rows_in l)) under.1) ∙ held.whole.1 in
    let rest = gathered (preview_found s span) DamagedFile (drop (i + 1) ns) in
    let old = vec_items c.loop-number.found in
    let new : vec_items c.if-inside-gt0.found ≡ old ++ preview_of s span x = elim c.if-inside-gt0.branch [
      | then-inside-gt0+in_ok-push w ↦ ap vec_items w.found-is ∙ w.in_ok-push.ensures.items ∙ ap (λ l. old ++ l) (preview_yes s span x c.count_inside-inside.result inside rows w.if-inside-gt0.true)
      | else-inside-gt0 w ↦ ap vec_items w.found-is ∙ sym (append-nil old) ∙ ap (λ l. old ++ l) (preview_no s span x c.count_inside-inside.result inside w.if-inside-gt0.false)
    ] in
    ap (λ l. behind l rest) new
    ∙ gather_go (preview_found s span) DamagedFile old _ _ c.loop-number.invariant n _ _ (drop_more ns i 0 (omega arith)) (ap (option_map (preview_of s span)) (sym under.0))

pub returns : goal.returns
unfolding previews
returns c =
    let s = files_in c.args.store.now c.args.files in
    gather_end (preview_found s c.args.span) DamagedFile (vec_items c.loop-number.found) _ _ c.loop-number.invariant (drop_all c.loop-number.number-index c.args.numbers.now (omega arith))
