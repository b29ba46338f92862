use Rattle.std.proofs.Common.{◌≡◌, true, false, set, Some, Ok, Err, None, sym, ap, ◌∙◌, subst, refl, rules}
use Rattle.std.proofs.lemmas.Result.{err_from_is_err_and}
use Rattle.rows.specs.declared.refusal.Refusal.TheVariants.{IdleWriter}
use Rattle.writers.specs.Answers.{Does}
use Rattle.writers.specs.Deeds.{look_done}
use Rattle.writers.specs.Memory.{pending_of, held_by, Memory, memory_of, with_pending}
use Rattle.writers.specs.Model.{fine, again, refused}
use Rattle.writers.specs.declared.Table.{Table}
use Rattle.writers.specs.declared.writer.Writer.TheVariants.{Idle, Ready}
use Rattle.writers.proofs.DeskLaws.{Found, found_there, found_held, memory_still, memory_set, memory_reset}
use Rattle.writers.proofs.DeedLaws.{refused_does, look_nobody, look_idle, look_late, look_tried}
use Rattle.writers.proofs.Table.look.Goals as goal
use Rattle.writers.proofs.Table.look.Goals.{then-not-is_kept-via-then-not-is_kept, then-not-is_kept-via-else-not-is_kept+in_ok-conflict_since+then-branch}

pub returns-in_err-index : goal.returns-in_err-index
returns-in_err-index c d fs =
    let p = err_from_is_err_and c.from_residual.result c.from_residual.ensures.1 in
    rw (p.1, p.2, c.in_err-index.ensures.0) (look_nobody c.args.writer (memory_of c.args.self.now d fs c.args.log.ends.now c.args.log.bytes.now) c.in_err-index.ensures.1)

pub returns-in_default : goal.returns-in_default
returns-in_default c d fs =
    let t = c.args.self.now in
    let w = c.args.writer in
    let es = c.args.log.ends.now in
    let l = c.args.log.bytes.now in
    let x = c.index-self-index.result in
    let f : Found t w c.in_ok-index.index c.index-self-index.result Idle = record { at = c.in_ok-index.ensures.0; below = c.in_ok-index.ensures.1; within = search rules; read = c.in_default.is } in
    ap (λ (m : Memory). (refused (IdleWriter w), m)) (memory_still f d fs es l _ (ap held_by c.in_default.is)) ∙ look_idle w (memory_of t d fs es l) (found_there f) (found_held f)

pub returns-then-not-is_kept : goal.returns-then-not-is_kept
returns-then-not-is_kept c d fs =
    let t = c.args.self.now in
    let w = c.args.writer in
    let es = c.args.log.ends.now in
    let l = c.args.log.bytes.now in
    let m = memory_of t d fs es l in
    let draft = c.in-Ready.draft in
    let p = pending_of draft in
    let f : Found t w c.in_ok-index.index c.index-self-index.result (Ready draft) = record { at = c.in_ok-index.ensures.0; below = c.in_ok-index.ensures.1; within = search rules; read = c.in-Ready.is } in
    let i = c.in_ok-index.index in
    let idle : Table → Memory = λ v. memory_of (record { store = v.store; writers = set v.writers i Idle }) d fs es l in
    let gone : idle (record { store = t.store; writers = set t.writers i (Ready draft) }) ≡ with_pending m w None = memory_reset t w i f.at d fs es l (Ready draft) Idle in
    elim c.then-not-is_kept.branch [
      | then-not-is_kept-via-then-not-is_kept b ↦
          ap (λ (x : Memory). (again, x)) (ap idle b.self-is ∙ gone) ∙ look_late w m (found_there f) p (found_held f) b.if-not-is_kept.ensures
      | then-not-is_kept-via-else-not-is_kept+in_ok-conflict_since+then-branch b ↦
          let found = ap Ok (sym b.if-branch.true) ∙ b.in_ok-conflict_since.ensures in
          ap (λ (x : Memory). (again, x)) (ap idle b.self-is ∙ gone) ∙ look_tried w m (found_there f) p (found_held f) (Ok true) b.if-not-is_kept.ensures found
    ]

pub returns-in_err-conflict_since : goal.returns-in_err-conflict_since
returns-in_err-conflict_since c d fs =
    let t = c.args.self.now in
    let w = c.args.writer in
    let es = c.args.log.ends.now in
    let l = c.args.log.bytes.now in
    let m = memory_of t d fs es l in
    let draft = c.in-Ready.draft in
    let p = pending_of draft in
    let f : Found t w c.in_ok-index.index c.index-self-index.result (Ready draft) = record { at = c.in_ok-index.ensures.0; below = c.in_ok-index.ensures.1; within = search rules; read = c.in-Ready.is } in
    let told = err_from_is_err_and c.from_residual-in_err-conflict_since.result c.from_residual-in_err-conflict_since.ensures.1 in
    let e = c.in_err-conflict_since.field-0.0 in
    rw (told.1, told.2)
    (subst (λ (x : Memory). Does (refused e) m x (look_done w m)) (sym (memory_still f d fs es l (Ready draft) refl))
    (refused_does e m (look_done w m) _ (look_tried w m (found_there f) p (found_held f) (Err e) c.if-not-is_kept.ensures) c.in_err-conflict_since.ensures))

pub returns : goal.returns
returns c d fs =
    let t = c.args.self.now in
    let w = c.args.writer in
    let es = c.args.log.ends.now in
    let l = c.args.log.bytes.now in
    let m = memory_of t d fs es l in
    let draft = c.in-Ready.draft in
    let p = pending_of draft in
    let f : Found t w c.in_ok-index.index c.index-self-index.result (Ready draft) = record { at = c.in_ok-index.ensures.0; below = c.in_ok-index.ensures.1; within = search rules; read = c.in-Ready.is } in
    let mine = Ready (record draft { entry = record draft.entry { place = c.entries-entry.result } }) in
    let looked = ap (λ n. with_pending m w (Some (record { began = p.began; looked = n; serial = p.serial; change = p.change }))) c.entries-entry.ensures in
    let found = ap Ok (sym c.if-branch.false) ∙ c.in_ok-conflict_since.ensures in
    ap (λ (x : Memory). (fine, x)) (memory_set t w c.in_ok-index.index f.at d fs es l mine ∙ looked) ∙ look_tried w m (found_there f) p (found_held f) (Ok false) c.if-not-is_kept.ensures found
