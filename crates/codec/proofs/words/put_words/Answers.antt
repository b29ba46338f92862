use Rattle.std.proofs.Common.{◌*◌, ◌^◌, ◌<◌, ap, ◌∙◌, arith}
use Rattle.std.proofs.ByRecursion.{All-from_get_or}
use Rattle.std.proofs.lemmas.List.{take_all}
use Rattle.codec.specs.Words.{put_at, bytes_of}
use Rattle.codec.proofs.WordLaws.{put_next, put_none}
use Rattle.codec.proofs.words.put_words.Goals as goal

pub loop-i-init : goal.loop-i-init
loop-i-init c = put_none (8 * c.args.k) c.args.out.now

pub loop-i-preserved : goal.loop-i-preserved
loop-i-preserved c = put_next c.args.out.now c.args.words.now c.loop-i.out _ c.args.k c.loop-i.i c.requires (omega arith) c.loop-i.invariant c.put_word.ensures

pub returns : goal.returns
returns c = record {
  after = c.loop-i.invariant ∙ ap (λ l. put_at (8 * c.args.k) (bytes_of l) c.args.out.now) (take_all c.loop-i.i c.args.words.now (omega arith));
  fit = All-from_get_or (λ w. w < 2 ^ 64) c.args.words.now 0 (λ i h. (c.type_inv.words i).fits);
}
