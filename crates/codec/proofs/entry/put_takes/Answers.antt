use Rattle.std.proofs.Common.{◌*◌, ap, ◌∙◌, arith}
use Rattle.std.proofs.lemmas.List.{take_all}
use Rattle.codec.specs.Words.{put_at, bytes_of}
use Rattle.codec.proofs.WordLaws.{put_none}
use Rattle.codec.proofs.EntryWrites.{put_take}
use Rattle.codec.proofs.entry.put_takes.Goals as goal

pub loop-i-init : goal.loop-i-init
loop-i-init c = put_none (8 * c.args.k) c.args.out.now

pub loop-i-preserved : goal.loop-i-preserved
loop-i-preserved c = put_take c.args.takes.now c.args.k c.loop-i.i c.args.out.now c.loop-i.out c.put_words.new.out (omega arith) (omega arith) c.loop-i.invariant c.put_words.ensures.after

pub returns : goal.returns
returns c = c.loop-i.invariant ∙ ap (λ l. put_at (8 * c.args.k) (bytes_of l) c.args.out.now) (take_all c.loop-i.i c.args.takes.now (omega arith))
