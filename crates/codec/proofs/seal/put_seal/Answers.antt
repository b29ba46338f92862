use Rattle.std.proofs.Common.{◌*◌, ◌/◌, ◌%◌, ◌^◌, [], ◌∷◌, length, take, sum, sym, ap, ◌∙◌}
use Rattle.std.proofs.lemmas.List.{take-map}
use Rattle.codec.specs.Words.{le, put_at, numbers, bytes_of}
use Rattle.codec.proofs.WordLaws.{chunk_numbers}
use Rattle.codec.proofs.seal.put_seal.Goals as goal

pub returns : goal.returns
returns c =
    let out = c.args.out.now in
    let n = c.args.n in
    let front = ap (λ l. numbers (take n l)) c.as_chunks.ensures.front ∙ sym (take-map le n _) ∙ ap (take n) (chunk_numbers (length out / 8) out) in
    c.put_words.ensures.after ∙ ap (λ s. put_at (8 * n) (bytes_of (s ∷ [])) out) (c.sum_words-total.ensures ∙ ap (λ l. sum l % 2 ^ 64) front)
