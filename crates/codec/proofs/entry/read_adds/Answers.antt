use Rattle.std.proofs.Common.{ℕ, ◌/◌, ◌<◌, [], length, vec_items, ◌∙◌, arith}
use Rattle.std.proofs.lemmas.List.{length-map}
use Rattle.codec.specs.Words.{le, numbers}
use Rattle.codec.proofs.WordLaws.{numbers_chunk}
use Rattle.codec.proofs.EntryReads.{add_more_in, add_out_of_bounds, adds_all_in}
use Rattle.codec.proofs.entry.read_adds.Goals as goal

pub returns-in_default : goal.returns-in_default
returns-in_default c =
    let ws = c.args.words.now in
    let i = c.loop-file.file-index in
    let at = λ (j : ℕ) (h : j < 3). numbers_chunk 3 (length ws / 3) i j ws c.as_chunks.result.0.now [] c.as_chunks.ensures.front (omega (arith, c.as_chunks.ensures.front_len)) h in
    add_out_of_bounds (numbers ws) i c.number.result c.number-in-loop-file.result c.number-in-loop-file-2.result (omega (arith, length-map ws le, c.as_chunks.ensures.front_len))
    (c.number.ensures ∙ at 0 (omega arith)) (c.number-in-loop-file.ensures ∙ at 1 (omega arith)) (c.number-in-loop-file-2.ensures ∙ at 2 (omega arith))
    (vec_items c.loop-file.adds) c.in_default.ensures c.loop-file.invariant

pub loop-file-preserved : goal.loop-file-preserved
loop-file-preserved c =
    let ws = c.args.words.now in
    let i = c.loop-file.file-index in
    let at = λ (j : ℕ) (h : j < 3). numbers_chunk 3 (length ws / 3) i j ws c.as_chunks.result.0.now [] c.as_chunks.ensures.front (omega (arith, c.as_chunks.ensures.front_len)) h in
    add_more_in (numbers ws) i c.number.result c.number-in-loop-file.result c.number-in-loop-file-2.result (omega (arith, length-map ws le, c.as_chunks.ensures.front_len))
    (c.number.ensures ∙ at 0 (omega arith)) (c.number-in-loop-file.ensures ∙ at 1 (omega arith)) (c.number-in-loop-file-2.ensures ∙ at 2 (omega arith))
    (vec_items c.loop-file.adds) (vec_items c.push.new.self) c.in-Some.added c.in-Some.ensures c.in_ok-push.ensures.items c.loop-file.invariant

pub returns : goal.returns
returns c =
    let ws = c.args.words.now in
    adds_all_in (numbers ws) (vec_items c.loop-file.adds) c.loop-file.file-index (omega (arith, length-map ws le, c.as_chunks.ensures.front_len, c.requires)) c.loop-file.invariant
