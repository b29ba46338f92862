use Rattle.std.proofs.Common.{sym, ap, ◌∙◌, arith}
use Rattle.std.proofs.lemmas.List.{at_drop_all}
use Rattle.codec.specs.Rewrites.{rewritten, memory_around, target_in, rows_kept}
use Rattle.codec.proofs.RowWrites.{none_left, left_room, fewer_left}
use Rattle.codec.proofs.SourceWrites.{keys_widened, source_not_there, source_step}
use Rattle.codec.proofs.rewrite.Rewriting.put_all.Goals as goal
use Rattle.codec.proofs.rewrite.Rewriting.put_all.Goals.{in-Some, in_default}

pub put_rows-progress-requires : goal.put_rows-progress-requires
put_rows-progress-requires c =
    let memory = memory_around c.args.self.now c.args.out.now in
    let target = target_in c.args.self.now c.args.out.now in
    let step = source_step c.args.self.now.rewrite memory target c.args.sources.now c.requires.valid c.loop-source.source-index _ (omega arith) c.in-Some.bytes.now (c.in-Some.ensures c.args.out.now c.requires.end) in
    record { room = left_room c.loop-source.invariant _ _ step (omega (arith, c.requires.room)) }

pub loop-source-preserved : goal.loop-source-preserved
loop-source-preserved c =
    let memory = memory_around c.args.self.now c.args.out.now in
    let target = target_in c.args.self.now c.args.out.now in
    elim c.match-part.branch [
      | in-Some w ↦
          let step = source_step c.args.self.now.rewrite memory target c.args.sources.now c.requires.valid c.loop-source.source-index _ (omega arith) w.in-Some.bytes.now (w.in-Some.ensures c.args.out.now c.requires.end) in
          let put = w.put_rows-progress.ensures in
          fewer_left c.loop-source.invariant _ _ step (omega (arith, c.requires.room))
          record { after = w.out-is ∙ put.after; count = ap (λ p. p.count) w.progress-is ∙ put.count; keys_of = ap (λ p. p.keys) w.progress-is ∙ put.keys; fit = put.fit }
      | in_default w ↦ absurd (source_not_there c.args.self.now.rewrite memory target c.args.sources.now c.requires.valid c.loop-source.source-index _ (omega arith) (w.in_default.ensures c.args.out.now c.requires.end))
    ]

pub returns : goal.returns
unfolding rewritten
returns c =
    let put = none_left c.loop-source.invariant (at_drop_all (rows_kept c.args.self.now c.args.out.now) c.args.sources.now c.loop-source.source-index (omega arith)) in
    record { after = put.after; keys = put.keys_of ∙ sym (keys_widened _); fit = put.fit }
