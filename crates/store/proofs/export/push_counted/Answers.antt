use Rattle.std.proofs.Common.{[], ◌∷◌, ◌++◌, length, vec_items, ap, ◌∙◌}
use Rattle.std.proofs.lemmas.List.{append_assoc}
use Rattle.codec.specs.Words.{bytes_of}
use Rattle.store.proofs.export.push_counted.Goals as goal

-- src/export.rt:23:1
pub returns : goal.returns
returns c =
    let bs = c.args.bytes.now in
    c.in_ok-extend_from_slice.ensures.items
    ∙ ap (λ l. l ++ bs) c.in_ok-push_word.ensures
    ∙ append_assoc (vec_items c.args.out.now) (bytes_of (length bs ∷ [])) bs
