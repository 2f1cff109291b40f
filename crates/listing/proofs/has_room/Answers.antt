use Rattle.std.proofs.Common.{arith}
use Rattle.listing.proofs.Passes.{room_on, room_not, room_done}
use Rattle.listing.proofs.has_room.Goals as goal

pub returns-then-left-n : goal.returns-then-left-n
returns-then-left-n c = room_not c.args.words.now c.loop-w.w-index (omega arith) c.loop-w.left c.args.room _ c.line_length-n.ensures c.loop-w.invariant.0 c.if-left-n.true

pub loop-w-preserved : goal.loop-w-preserved
loop-w-preserved c = (room_on c.args.words.now c.loop-w.w-index (omega arith) c.loop-w.left c.args.room _ c.line_length-n.ensures c.loop-w.invariant.0 c.if-left-n.false, omega arith)

pub returns : goal.returns
returns c = room_done c.args.words.now c.loop-w.w-index (omega arith) c.loop-w.left c.args.room c.loop-w.invariant.0
