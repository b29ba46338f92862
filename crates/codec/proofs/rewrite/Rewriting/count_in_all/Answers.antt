use Rattle.std.proofs.Common.{sym, ◌∙◌, refl, arith}
use Rattle.codec.specs.Rewrites.{memory_around, target_in}
use Rattle.codec.proofs.SourceLaws.{survey_stop, survey_over, survey_more, survey_end}
use Rattle.codec.proofs.rewrite.Rewriting.count_in_all.Goals as goal

pub returns-in_err-count : goal.returns-in_err-count
returns-in_err-count c =
    let s = c.args.self.now in
    λ out end. c.from_residual.ensures
    ∙ survey_stop c.args.self.now.rewrite (memory_around s out) (target_in s out) c.args.sources.now c.loop-source.source-index c.loop-source.total (c.loop-source.invariant.0 out end) _ (omega arith) (sym c.in_err-count.was ∙ c.count_in.ensures out end)

pub returns-then-count-total : goal.returns-then-count-total
returns-then-count-total c =
    let s = c.args.self.now in
    λ out end.
    survey_over c.args.self.now.rewrite (memory_around s out) (target_in s out) c.args.sources.now c.loop-source.source-index c.loop-source.total (c.loop-source.invariant.0 out end) _ (omega arith)
    c.in_ok-count.count (sym c.in_ok-count.was ∙ c.count_in.ensures out end) (omega arith)

pub loop-source-preserved : goal.loop-source-preserved
loop-source-preserved c =
    let s = c.args.self.now in (
      λ out end.
          survey_more c.args.self.now.rewrite (memory_around s out) (target_in s out) c.args.sources.now c.loop-source.source-index c.loop-source.total (c.loop-source.invariant.0 out end) _ (omega arith)
          c.in_ok-count.count (sym c.in_ok-count.was ∙ c.count_in.ensures out end) _ (omega arith) refl,
      omega (arith, c.loop-source.invariant.1),
    )

pub returns : goal.returns
returns c =
    let s = c.args.self.now in
    λ out end. survey_end c.args.self.now.rewrite (memory_around s out) (target_in s out) c.args.sources.now c.loop-source.source-index c.loop-source.total (c.loop-source.invariant.0 out end) (omega arith)
