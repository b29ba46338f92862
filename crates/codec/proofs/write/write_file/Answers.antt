use Rattle.std.proofs.Common.{length, sym, ap, ◌∙◌, arith}
use Rattle.codec.specs.Files.{file, pairs}
use Rattle.codec.proofs.FileReads.{length_pairs_half}
use Rattle.codec.proofs.LentFiles.{writes_no_count, writes_no_rows, writes_no_room, count_none, count_many, lent_not_written, lent_keys_none, lent_is_written}
use Rattle.codec.proofs.write.write_file.Goals as goal

pub returns-then-count-eq0 : goal.returns-then-count-eq0
returns-then-count-eq0 c =
    let lent = c.args.lent.now in
    lent_not_written c.args.number c.args.began lent c.args.out.now (writes_no_count (file c.args.number c.args.began (pairs lent)) _ (count_none (length (pairs lent)) (omega (arith, length_pairs_half lent))))

pub returns-then-count-gt-MOST_ROWS : goal.returns-then-count-gt-MOST_ROWS
returns-then-count-gt-MOST_ROWS c =
    let lent = c.args.lent.now in
    lent_not_written c.args.number c.args.began lent c.args.out.now (writes_no_count (file c.args.number c.args.began (pairs lent)) _ (count_many (length (pairs lent)) (omega (arith, length_pairs_half lent))))

pub returns-in_err-keys : goal.returns-in_err-keys
returns-in_err-keys c =
    let lent = c.args.lent.now in
    ap (λ o. (o, c.args.out.now)) c.from_residual.ensures ∙ lent_not_written c.args.number c.args.began lent c.args.out.now (writes_no_rows (file c.args.number c.args.began (pairs lent)) _ (lent_keys_none lent (sym c.in_err-keys.was ∙ c.lent_keys.ensures)))

pub returns-then-out-length : goal.returns-then-out-length
returns-then-out-length c =
    let lent = c.args.lent.now in
    lent_not_written c.args.number c.args.began lent c.args.out.now (writes_no_room (file c.args.number c.args.began (pairs lent)) _ (omega (arith, length_pairs_half lent)))

pub returns : goal.returns
returns c =
    lent_is_written c.args.number c.args.began c.args.lent.now c.args.out.now c.put_words.new.out c.put_words-2.new.out c.put_seal.new.out c.in_ok-keys.keys
    (omega arith) (omega arith) (omega arith) (omega arith) (sym c.in_ok-keys.was ∙ c.lent_keys.ensures) (omega arith)
    c.put_words.ensures.fit c.put_words-2.ensures.fit c.put_words.ensures.after c.put_words-2.ensures.after c.put_seal.ensures
