use Rattle.std.proofs.Common.{arith}
use Rattle.texts.proofs.Pieces.{raw_on, raw_done}
use Rattle.texts.proofs.put_words.Goals as goal

pub loop-w-preserved : goal.loop-w-preserved
loop-w-preserved c = raw_on c.args.words.now c.loop-w.w-index c.loop-w.out c.loop-w.end (omega arith) c.loop-w.invariant c.put_raw-end.ensures.stands

pub returns : goal.returns
returns c = raw_done c.args.words.now c.loop-w.w-index c.loop-w.out c.loop-w.end (omega arith) c.loop-w.invariant
