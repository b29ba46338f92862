use Rattle.std.proofs.Common.{length, is_some, sym, ap, ◌∙◌, arith}
use Rattle.codec.specs.Files.{file_in, rows_from}
use Rattle.codec.specs.Rewrites.{survey}
use Rattle.codec.proofs.RewriteLaws.{staying_some, staying_none, rows_from_there, head_there, count_one, count_breaks, count_end}
use Rattle.codec.proofs.RowWrites.{count_in}
use Rattle.codec.proofs.rewrite.Rewrite.count_staying.Goals as goal

pub returns-in_err-fate : goal.returns-in_err-fate
returns-in_err-fate c =
    let xs = c.args.bytes.now in
    let there = (head_there xs c.in_ok-read_file.field-0 (sym c.in_ok-read_file.was ∙ c.read_file.ensures)).0 in
    c.from_residual-in_err-fate.ensures
    ∙ count_breaks c.args.self (rows_from xs) _ _ c.in-Some.row c.in-Some.ensures.steps c.loop-row.count c.loop-row.invariant (is_some (file_in xs)) (sym c.fate.ensures ∙ c.in_err-fate.was)
    ∙ ap (survey c.args.self (is_some (file_in xs))) (rows_from_there xs there)

pub overflow_add-count : goal.overflow_add-count
overflow_add-count c =
    let xs = c.args.bytes.now in
    let there = (head_there xs c.in_ok-read_file.field-0 (sym c.in_ok-read_file.was ∙ c.read_file.ensures)).0 in
    omega (arith, c.loop-row.invariant.2, ap length c.in-Some.ensures.steps, ap length (rows_from_there xs there), count_in xs there)

pub loop-row-preserved-then-is_some : goal.loop-row-preserved-then-is_some
loop-row-preserved-then-is_some c =
    count_one c.args.self (rows_from c.args.bytes.now) _ _ c.in-Some.row c.in-Some.ensures.steps c.loop-row.count c.loop-row.invariant c.in_ok-fate.field-0 _ (sym c.fate.ensures ∙ c.in_ok-fate.was) (omega (arith, staying_some c.in_ok-fate.field-0 (sym c.if-is_some.ensures)))

pub loop-row-preserved : goal.loop-row-preserved
loop-row-preserved c =
    count_one c.args.self (rows_from c.args.bytes.now) _ _ c.in-Some.row c.in-Some.ensures.steps c.loop-row.count c.loop-row.invariant c.in_ok-fate.field-0 _ (sym c.fate.ensures ∙ c.in_ok-fate.was) (omega (arith, staying_none c.in_ok-fate.field-0 (sym c.if-is_some.ensures)))

pub returns : goal.returns
returns c =
    let xs = c.args.bytes.now in
    let there = (head_there xs c.in_ok-read_file.field-0 (sym c.in_ok-read_file.was ∙ c.read_file.ensures)).0 in
    count_end c.args.self (rows_from xs) _ c.loop-row.count (is_some (file_in xs)) c.in-None.ensures.steps.0 there c.loop-row.invariant
    ∙ ap (survey c.args.self (is_some (file_in xs))) (rows_from_there xs there)
