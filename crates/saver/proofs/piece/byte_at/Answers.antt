use Rattle.saver.proofs.Pieces.{file_head, file_frame, file_four, file_rest}
use Rattle.saver.proofs.piece.byte_at.Goals as goal

-- src/piece.rt:70:9
pub returns-then-k-n : goal.returns-then-k-n
returns-then-k-n c = file_head c.args.head.now c.args.n c.args.memory.now c.args.frames c.requires.piece_fits c.args.k c.if-k-n.true

-- src/piece.rt:74:9
pub returns-then-o-frames : goal.returns-then-o-frames
returns-then-o-frames c = file_frame c.args.head.now c.args.n c.args.memory.now c.args.frames c.requires.piece_fits c.args.k _ c.if-k-n.false c.if-o-frames.true c.frame_byte.ensures

-- src/piece.rt:77:9
pub returns-then-o-frames-2 : goal.returns-then-o-frames-2
returns-then-o-frames-2 c = file_four c.args.head.now c.args.n c.args.memory.now c.args.frames c.requires.piece_fits c.args.k c.if-k-n.false c.if-o-frames-2.true

-- src/piece.rt:65:1
pub returns : goal.returns
returns c = file_rest c.args.head.now c.args.n c.args.memory.now c.args.frames c.requires.piece_fits c.args.k c.if-k-n.false c.if-o-frames.false c.if-o-frames-2.false c.requires.k_bound
