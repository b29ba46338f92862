use Rattle.std.proofs.Common.{◌<◌, sym, ap, ◌∙◌, refl, arith, rules}
use Rattle.std.proofs.lemmas.Result.{err_from_is_err_and}
use Rattle.rows.specs.declared.refusal.Refusal.TheVariants.{IdleWriter, LogFull}
use Rattle.store.specs.Log.{log_of}
use Rattle.store.specs.Unputs.{unput_refusal}
use Rattle.writers.specs.Deeds.{entry_for}
use Rattle.writers.specs.Memory.{pending_of, held_by, Memory, memory_of}
use Rattle.writers.specs.Model.{not_yet, counted, refused}
use Rattle.writers.specs.declared.writer.Writer.TheVariants.{Idle, Ready}
use Rattle.writers.proofs.DeskLaws.{Found, found_there, found_held, found_still, memory_still, held_reset, files_same, put_as, unput_log}
use Rattle.writers.proofs.DeedLaws.{put_nobody, put_idle, put_full, put_not_yet, put_tried}
use Rattle.writers.proofs.Table.put.Goals as goal

pub returns-in_err-index-clause-put : goal.returns-in_err-index-clause-put
returns-in_err-index-clause-put c d fs =
    let p = err_from_is_err_and c.from_residual.result c.from_residual.ensures.1 in
    rw (p.1, p.2, c.in_err-index.ensures.0) (put_nobody c.args.writer (memory_of c.args.self.now d fs c.args.log.now.ends.now c.args.log.now.bytes.now) c.in_err-index.ensures.1)

pub returns-in_default-clause-put : goal.returns-in_default-clause-put
returns-in_default-clause-put c d fs =
    let t = c.args.self.now in
    let w = c.args.writer in
    let es = c.args.log.now.ends.now in
    let l = c.args.log.now.bytes.now in
    let x = c.index-self-index.result in
    let f : Found t w c.in_ok-index.index c.index-self-index.result Idle = record { at = c.in_ok-index.ensures.0; below = c.in_ok-index.ensures.1; within = search rules; read = c.in_default.is } in
    ap (λ (m : Memory). (refused (IdleWriter w), m)) (memory_still f d fs es l _ (ap held_by c.in_default.is)) ∙ put_idle w (memory_of t d fs es l) (found_there f) (found_held f)

pub returns-then-newest-ge-LOG_LIMIT-clause-put : goal.returns-then-newest-ge-LOG_LIMIT-clause-put
returns-then-newest-ge-LOG_LIMIT-clause-put c d fs =
    let t = c.args.self.now in
    let w = c.args.writer in
    let es = c.args.log.now.ends.now in
    let l = c.args.log.now.bytes.now in
    let draft = c.in-Ready.draft in
    let p = pending_of draft in
    let f : Found t w c.in_ok-index.index c.index-self-index.result (Ready draft) = record { at = c.in_ok-index.ensures.0; below = c.in_ok-index.ensures.1; within = search rules; read = c.in-Ready.is } in
    ap (λ (m : Memory). (refused LogFull, m)) (memory_still f d fs es l (Ready draft) refl)
    ∙ put_full w (memory_of t d fs es l) (found_there f) p (found_held f) (omega (arith, c.if-newest-ge-LOG_LIMIT.true, c.entries-newest.ensures))

pub returns-then-entry-newest-clause-put : goal.returns-then-entry-newest-clause-put
returns-then-entry-newest-clause-put c d fs =
    let t = c.args.self.now in
    let w = c.args.writer in
    let es = c.args.log.now.ends.now in
    let l = c.args.log.now.bytes.now in
    let draft = c.in-Ready.draft in
    let p = pending_of draft in
    let f : Found t w c.in_ok-index.index c.index-self-index.result (Ready draft) = record { at = c.in_ok-index.ensures.0; below = c.in_ok-index.ensures.1; within = search rules; read = c.in-Ready.is } in
    ap (λ (m : Memory). (not_yet, m)) (memory_still f d fs es l (Ready draft) refl)
    ∙ put_not_yet w (memory_of t d fs es l) (found_there f) p (found_held f) (omega (arith, c.if-newest-ge-LOG_LIMIT.false, c.entries-newest.ensures)) (λ e. c.if-entry-newest.true (e ∙ sym c.entries-newest.ensures))

pub returns-in_err-put_entry-clause-put : goal.returns-in_err-put_entry-clause-put
returns-in_err-put_entry-clause-put c d fs =
    let t = c.args.self.now in
    let w = c.args.writer in
    let es = c.args.log.now.ends.now in
    let l = c.args.log.now.bytes.now in
    let draft = c.in-Ready.draft in
    let p = pending_of draft in
    let f : Found t w c.in_ok-index.index c.index-self-index.result (Ready draft) = record { at = c.in_ok-index.ensures.0; below = c.in_ok-index.ensures.1; within = search rules; read = c.in-Ready.is } in
    let newest = c.if-entry-newest.false ∙ c.entries-newest.ensures in
    let room : t.store.entries < 65536 = omega (arith, c.if-newest-ge-LOG_LIMIT.false, c.entries-newest.ensures) in
    let mine = Ready (record draft { entry = record draft.entry { writer = c.in_ok-index.index } }) in
    let s = c.put_entry.new.self in
    let es' = c.put_entry.new.memory.ends.now in
    let l' = c.put_entry.new.memory.bytes.now in
    let kept = c.put_entry.ensures.same in
    let files = files_same t.store s d fs kept.1 kept.2 in
    let put = put_as t.store es l w _ p _ f.at newest c.in_err-put_entry.ensures.put in
    let logs = unput_log (entry_for w t.store.entries p) (log_of t.store es l) (log_of s es' l') c.in_err-put_entry.field-0.0 put in
    let q = err_from_is_err_and c.from_residual-in_err-put_entry.result c.from_residual-in_err-put_entry.ensures.1 in
    rw (q.1, q.2) ((λ j. (refused (unput_refusal c.in_err-put_entry.field-0.0), record { horizon = kept.0 j; files = files j; log = logs j; writers = found_still f mine refl j }))
    ∙ put_tried w (memory_of t d fs es l) (found_there f) p (found_held f) room _ newest put)

pub returns-clause-put : goal.returns-clause-put
returns-clause-put c d fs =
    let t = c.args.self.now in
    let w = c.args.writer in
    let es = c.args.log.now.ends.now in
    let l = c.args.log.now.bytes.now in
    let draft = c.in-Ready.draft in
    let p = pending_of draft in
    let f : Found t w c.in_ok-index.index c.index-self-index.result (Ready draft) = record { at = c.in_ok-index.ensures.0; below = c.in_ok-index.ensures.1; within = search rules; read = c.in-Ready.is } in
    let newest = c.if-entry-newest.false ∙ c.entries-newest.ensures in
    let room : t.store.entries < 65536 = omega (arith, c.if-newest-ge-LOG_LIMIT.false, c.entries-newest.ensures) in
    let mine = Ready (record draft { entry = record draft.entry { writer = c.in_ok-index.index } }) in
    let s = c.put_entry.new.self in
    let es' = c.put_entry.new.memory.ends.now in
    let l' = c.put_entry.new.memory.bytes.now in
    let kept = c.put_entry.ensures.same in
    let files = files_same t.store s d fs kept.1 kept.2 in
    let put = put_as t.store es l w _ p _ f.at newest c.in_ok-put_entry.ensures.put in
    (λ j. (counted p.change.touched, record { horizon = kept.0 j; files = files j; log = log_of s es' l'; writers = held_reset t w c.in_ok-index.index f.at mine Idle j }))
    ∙ put_tried w (memory_of t d fs es l) (found_there f) p (found_held f) room _ newest put
