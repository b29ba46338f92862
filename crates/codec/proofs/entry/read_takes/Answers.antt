use Rattle.std.proofs.Common.{sym, ◌∙◌, vec_items, arith}
use Rattle.std.proofs.lemmas.List.{length-map}
use Rattle.codec.specs.Bounds.{is_key}
use Rattle.codec.specs.Words.{le, numbers}
use Rattle.codec.proofs.SealLaws.{cond_some}
use Rattle.codec.proofs.WordLaws.{get_or_numbers}
use Rattle.codec.proofs.EntryReads.{take_more_in, take_too_large, takes_all_in}
use Rattle.codec.proofs.entry.read_takes.Goals as goal

pub returns-in_default : goal.returns-in_default
returns-in_default c =
    let ws = c.args.words.now in
    let i = c.loop-word.word-index in
    take_too_large (numbers ws) i c.number.result (omega (arith, length-map ws le)) (c.number.ensures ∙ get_or_numbers ws i) (vec_items c.loop-word.takes) (grind (arith, c.in_default.ensures)) c.loop-word.invariant

pub loop-word-preserved : goal.loop-word-preserved
loop-word-preserved c =
    let ws = c.args.words.now in
    let i = c.loop-word.word-index in
    let file = cond_some (is_key c.number.result) c.number.result c.in-Some.file (sym c.in-Some.ensures) in
    take_more_in (numbers ws) i c.in-Some.file (omega (arith, length-map ws le)) (sym file.1 ∙ c.number.ensures ∙ get_or_numbers ws i) (vec_items c.loop-word.takes) (vec_items c.push.new.self) (grind (arith, file.0, file.1))
    c.in_ok-push.ensures.items c.loop-word.invariant

pub returns : goal.returns
returns c = let ws = c.args.words.now in takes_all_in (numbers ws) (vec_items c.loop-word.takes) c.loop-word.word-index (omega (arith, length-map ws le)) c.loop-word.invariant
