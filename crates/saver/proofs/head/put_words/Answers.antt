use Rattle.std.proofs.Common.{arith}
use Rattle.saver.proofs.Heads.{words_none, words_on, words_done}
use Rattle.saver.proofs.head.put_words.Goals as goal

pub loop-w-init : goal.loop-w-init
loop-w-init c = words_none c.args.words.now

pub loop-w-preserved : goal.loop-w-preserved
loop-w-preserved c = words_on c.args.words.now c.loop-w.w-index (omega arith) c.loop-w.invariant c.put_word-end.ensures

pub returns : goal.returns
returns c = words_done c.args.words.now c.loop-w.w-index (omega arith) (omega arith) c.loop-w.invariant
