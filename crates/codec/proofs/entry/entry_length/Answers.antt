use Rattle.std.proofs.Common.{sym, ◌∙◌, arith}
use Rattle.codec.specs.Entries.{entry_of}
use Rattle.codec.proofs.EntryWrites.{Written, front_is, length_done}
use Rattle.codec.proofs.entry.entry_length.Goals as goal

written : (c : goal.In_ok-front) → Written (entry_of c.args.entry.now) c.in_ok-front.field-0
written c = front_is _ c.in_ok-front.field-0 (sym c.in_ok-front.was ∙ c.front.ensures)

pub overflow_add-result : goal.overflow_add-result
overflow_add-result c = omega (arith, (written c).fits)

pub overflow_mul-result : goal.overflow_mul-result
overflow_mul-result c = omega (arith, (written c).fits)

pub returns : goal.returns
returns c = length_done (entry_of c.args.entry.now) c.in_ok-front.field-0 (written c)
