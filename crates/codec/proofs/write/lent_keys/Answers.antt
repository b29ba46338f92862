use Rattle.std.proofs.Common.{ℕ, ◌+◌, ◌*◌, ◌/◌, ◌<◌, [], length, get_or, sym, ap, ◌∙◌, arith}
use Rattle.codec.specs.Files.{row_of}
use Rattle.codec.proofs.LentFiles.{lent_more, lent_stop, lent_end}
use Rattle.codec.proofs.WordLaws.{get_or_chunk}
use Rattle.codec.proofs.write.lent_keys.Goals as goal

pub returns-in_err-row : goal.returns-in_err-row
returns-in_err-row c =
    let lent = c.args.lent.now in
    let i = c.loop-key.key-index in
    let chunks = c.as_chunks.ensures in
    let pair = get_or c.as_chunks.result.0.now i [] in
    let at = λ (j : ℕ) (h : j < 2). get_or_chunk 2 (length lent / 2) i j lent c.as_chunks.result.0.now [] 0 chunks.front (omega (arith, chunks.front_len)) h in
    c.from_residual.ensures ∙ lent_stop lent i (omega (arith, chunks.front_len)) (sym c.in_err-row.was ∙ c.row_of.ensures ∙ ap (λ k. row_of k (get_or pair 1 0)) (at 0 (omega arith)) ∙ ap (row_of (get_or lent (2 * i + 0) 0)) (at 1 (omega arith))) c.loop-key.invariant.0

pub loop-key-preserved : goal.loop-key-preserved
loop-key-preserved c =
    let lent = c.args.lent.now in
    let i = c.loop-key.key-index in
    let chunks = c.as_chunks.ensures in
    let pair = get_or c.as_chunks.result.0.now i [] in
    let at = λ (j : ℕ) (h : j < 2). get_or_chunk 2 (length lent / 2) i j lent c.as_chunks.result.0.now [] 0 chunks.front (omega (arith, chunks.front_len)) h in
    lent_more lent i (omega (arith, chunks.front_len)) c.in_ok-row.row c.loop-key.keys c.widened-keys.result
    (sym c.in_ok-row.was ∙ c.row_of.ensures ∙ ap (λ k. row_of k (get_or pair 1 0)) (at 0 (omega arith)) ∙ ap (row_of (get_or lent (2 * i + 0) 0)) (at 1 (omega arith))) c.widened-keys.ensures c.loop-key.invariant

pub returns : goal.returns
returns c = lent_end c.args.lent.now c.loop-key.key-index c.loop-key.keys (omega (arith, c.as_chunks.ensures.front_len)) c.loop-key.invariant.0 c.loop-key.invariant.1
