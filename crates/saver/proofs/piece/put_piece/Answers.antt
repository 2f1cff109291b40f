use Rattle.std.proofs.Common.{take, arith, length-take}
use Rattle.saver.proofs.Pieces.{piece_on}
use Rattle.saver.proofs.piece.put_piece.Goals as goal

pub loop-i-preserved : goal.loop-i-preserved
loop-i-preserved c =
    let a = c.args in
    let l = length-take a.count a.out.now in
    piece_on a.head.now a.n a.memory.now a.frames c.requires.piece_fits (take a.count a.out.now) c.loop-i.b-items a.at a.count c.loop-i.i _ (omega arith) (omega arith) c.requires.count_bound c.loop-i.invariant c.byte_at.ensures
