use Rattle.std.proofs.Common.{◌+◌, ◌*◌, [], ◌∷◌, ◌++◌, length, ap, sym, ◌∙◌, subst, refl, arith}
use Rattle.codec.specs.Files.{rows_left}
use Rattle.codec.specs.Rewrites.{rewritten}
use Rattle.codec.specs.Words.{AreWords, put_at, bytes_of}
use Rattle.codec.proofs.RewriteLaws.{rewritten_step}
use Rattle.codec.proofs.RowWrites.{all_left, same_left, none_left, left_room, fewer_left}
use Rattle.codec.proofs.rewrite.Rewrite.put_rows.Goals as goal

pub loop-row-init : goal.loop-row-init
loop-row-init c = same_left all_left (ap (rewritten c.args.self) (sym (ap rows_left c.into_iter-row-iterator.ensures.into_iter_gives ∙ c.of-row-items.ensures.rows)))

pub put_words-requires : goal.put_words-requires
put_words-requires c =
    let step = rewritten_step c.args.self _ _ c.in-Some.row c.in-Some.ensures.steps ∙ ap (λ l. l ++ rewritten c.args.self (rows_left c.next.new.self)) c.in-Some-kept.ensures in
    let room = left_room c.loop-row.invariant (c.in-Some-kept.row ∷ []) _ step c.requires.room in
    omega (arith, room, ap length c.row_words.ensures)

pub loop-row-preserved-in-Some-kept : goal.loop-row-preserved-in-Some-kept
loop-row-preserved-in-Some-kept c =
    let step = rewritten_step c.args.self _ _ c.in-Some.row c.in-Some.ensures.steps ∙ ap (λ l. l ++ rewritten c.args.self (rows_left c.next.new.self)) c.in-Some-kept.ensures in
    fewer_left c.loop-row.invariant (c.in-Some-kept.row ∷ []) _ step c.requires.room
    record {
      after = c.put_words.ensures.after ∙ ap (λ ws. put_at (8 * (3 + 2 * c.loop-row.count)) (bytes_of ws) c.loop-row.out) c.row_words.ensures;
      count = refl;
      keys_of = c.widened-keys.ensures;
      fit = subst AreWords c.row_words.ensures c.put_words.ensures.fit;
    }

pub loop-row-preserved : goal.loop-row-preserved
loop-row-preserved c =
    same_left c.loop-row.invariant (rewritten_step c.args.self _ _ c.in-Some.row c.in-Some.ensures.steps ∙ ap (λ l. l ++ rewritten c.args.self (rows_left c.next.new.self)) c.in_default.ensures)

pub returns : goal.returns
unfolding rewritten
returns c =
    let put = none_left c.loop-row.invariant (ap (rewritten c.args.self) c.in-None.ensures.steps.0) in
    record { after = put.after; count = put.count; keys = put.keys_of; fit = put.fit }
