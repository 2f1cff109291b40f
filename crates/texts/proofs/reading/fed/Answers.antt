use Rattle.std.proofs.Common.{arith}
use Rattle.texts.proofs.Pieces.{fed_on, fed_done}
use Rattle.texts.proofs.reading.fed.Goals as goal

pub loop-b-preserved : goal.loop-b-preserved
loop-b-preserved c = (fed_on c.args.decimals c.args.piece.now c.loop-b.b-index _ (omega arith) c.loop-b.invariant.0 c.took-x.ensures.words_after, c.took-x.ensures.fits)

pub returns : goal.returns
returns c = record { words_after = fed_done c.args.decimals c.args.piece.now c.loop-b.b-index _ (omega arith) c.loop-b.invariant.0; fits = c.loop-b.invariant.1 }
