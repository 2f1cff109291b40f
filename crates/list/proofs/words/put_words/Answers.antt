use Rattle.std.proofs.Common.{arith}
use Rattle.list.proofs.Pieces.{rest_on, rest_done, lines_on, lines_done}
use Rattle.list.proofs.words.put_words.Goals as goal

pub loop-b-preserved : goal.loop-b-preserved
loop-b-preserved c = (lines_on c.args.piece.now c.loop-b.b-index c.loop-b.rest (omega arith) c.loop-b.out c.loop-b.end c.further-rest.ensures c.loop-b.invariant.0 c.put_completed-end.ensures, rest_on c.args.piece.now c.loop-b.b-index c.loop-b.rest (omega arith) c.further-rest.ensures c.loop-b.invariant.1)

pub returns : goal.returns
returns c = record { end_after = lines_done c.args.piece.now c.loop-b.b-index c.loop-b.rest (omega arith) c.loop-b.out c.loop-b.end c.loop-b.invariant.0; rest_value = rest_done c.args.piece.now c.loop-b.b-index c.loop-b.rest (omega arith) c.loop-b.invariant.1 }
