use Rattle.std.proofs.Common.{vec_items, arith}
use Rattle.store.proofs.ExportLaws.{words_start, words_turn, words_end}
use Rattle.store.proofs.export.push_words.Goals as goal

pub loop-word-init : goal.loop-word-init
loop-word-init c = words_start c.args.words.now (vec_items c.args.out.now)

pub loop-word-preserved : goal.loop-word-preserved
loop-word-preserved c = words_turn c.args.words.now c.loop-word.word-index (vec_items c.args.out.now) (vec_items c.loop-word.out) (vec_items c.push_word.new.out) (omega arith) c.loop-word.invariant c.in_ok-push_word.ensures

pub returns : goal.returns
returns c = words_end c.args.words.now c.loop-word.word-index (vec_items c.args.out.now) (vec_items c.loop-word.out) (omega arith) c.loop-word.invariant
