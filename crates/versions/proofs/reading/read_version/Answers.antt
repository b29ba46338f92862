use Rattle.std.proofs.Common.{◌≡◌, vec_items, ap, ◌∙◌}
use Rattle.std.proofs.lemmas.Result.{err_from_is_err_and}
use Rattle.rows.proofs.Unless.{unless_hands_on, unless_map}
use Rattle.store.specs.Memory.{log_in}
use Rattle.store.specs.Memory.{files_in}
use Rattle.versions.specs.FilesHeld.{rows_held}
use Rattle.versions.specs.Histories.{entries_of, live_of}
use Rattle.versions.proofs.ReadLaws.{read_damaged, read_old, read_kept}
use Rattle.versions.proofs.reading.read_version.Goals as goal

pub returns-in_err-history : goal.returns-in_err-history
returns-in_err-history c =
    let p = err_from_is_err_and c.from_residual.result c.from_residual.ensures.1 in
    let s = files_in c.args.store.now c.args.files in
    let l = log_in c.args.store.now c.args.log in
    rw (p.1, p.2) (unless_hands_on c.in_err-history.field-0.0 _ _ (read_damaged c.args.store.now.horizon s l c.args.version c.in_err-history.field-0.0) c.in_err-history.ensures)

pub returns-then-not-is_kept : goal.returns-then-not-is_kept
returns-then-not-is_kept c =
    let s = files_in c.args.store.now c.args.files in
    let l = log_in c.args.store.now c.args.log in
    read_old c.args.store.now.horizon s l c.args.version (entries_of c.in_ok-history.history) c.in_ok-history.ensures c.if-not-is_kept.ensures

pub returns : goal.returns
returns c =
    let s = files_in c.args.store.now c.args.files in
    let l = log_in c.args.store.now c.args.log in
    let es = entries_of c.in_ok-history.history in
    let live = c.in_ok-live.ensures in
    let same : vec_items c.in_ok-live.live ≡ live_of es = cc in
    unless_map c.rows_of.result _ _ (λ e.
    e ∙ ap (rows_held s) (c.deref.ensures.value ∙ same)
    ∙ read_kept c.args.store.now.horizon s l c.args.version es c.in_ok-history.ensures c.if-not-is_kept.ensures) c.rows_of.ensures
