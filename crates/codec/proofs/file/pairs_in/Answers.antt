use Rattle.std.proofs.Common.{◌≡◌, ◌-◌, ◌/◌, length, take, drop, map, sym, refl, ap, ◌∙◌}
use Rattle.std.proofs.lemmas.List.{drop-map, take_rest}
use Rattle.codec.specs.Words.{le, numbers}
use Rattle.codec.specs.Files.{pairs, row_read}
use Rattle.codec.proofs.FileReads.{pairs_read, behind_head}
use Rattle.codec.proofs.file.pairs_in.Goals as goal

pub returns : goal.returns
returns c =
    let ws = c.args.words.now in
    let m = c.min.result in
    let rest = take (length ws - m) (drop m ws) in
    let behind : take (length ws - m) (drop m ws) ≡ drop 3 ws = take_rest ws m ∙ ap (λ k. drop k ws) c.min.ensures ∙ behind_head ws in
    ap (map row_read) c.as_chunks.ensures.front ∙ pairs_read (length rest / 2) rest refl ∙ ap (λ l. pairs (numbers l)) behind ∙ ap pairs (sym (drop-map le 3 ws))
