use Rattle.std.proofs.Common.{Err, ap, ◌∙◌, arith}
use Rattle.store.proofs.Readers.{file_too_long, file_cut, file_whole}
use Rattle.store.proofs.Store.file_end.Goals as goal

pub returns-then-length-slot_size : goal.returns-then-length-slot_size
returns-then-length-slot_size c = file_too_long c.args.self.now.most_rows c.args.from.at c.args.from.bytes.now c.in-Some-Some.number c.in-Some-Some.length c.in-Some-Some.ensures c.in-Some-Some.ensures' c.if-number.false (omega (arith, c.if-length-slot_size.true, c.slot_size.ensures))

pub returns-then-length-left : goal.returns-then-length-left
returns-then-length-left c =
    ap Err c.cut_short-then-length-left.ensures ∙ file_cut c.args.self.now.most_rows c.args.from.at c.args.from.bytes.now c.in-Some-Some.number c.in-Some-Some.length c.in-Some-Some.ensures c.in-Some-Some.ensures' c.if-number.false (omega (arith, c.if-length-slot_size.false, c.slot_size.ensures)) (omega (arith, c.if-length-left.true, c.left.ensures))

pub returns : goal.returns
returns c = file_whole c.args.self.now.most_rows c.args.from.at c.args.from.bytes.now c.in-Some-Some.number c.in-Some-Some.length c.in-Some-Some.ensures c.in-Some-Some.ensures' c.if-number.false (omega (arith, c.if-length-slot_size.false, c.slot_size.ensures)) (omega (arith, c.if-length-left.false, c.left.ensures))
