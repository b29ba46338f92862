use Rattle.std.proofs.Common.{◌++◌, vec_items, sym, ap, ◌∙◌}
use Rattle.codec.proofs.WordLaws.{bytes_eight, bytes_of_one}
use Rattle.store.proofs.export.push_word.Goals as goal

-- src/export.rt:15:1
pub returns : goal.returns
returns c =
    c.in_ok-extend_from_slice.ensures.items
    ∙ ap (λ l. vec_items c.args.out.now ++ l) (c.to_le_bytes.ensures ∙ bytes_eight c.args.word ∙ sym (bytes_of_one c.args.word))
