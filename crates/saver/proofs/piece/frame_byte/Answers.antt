use Rattle.std.proofs.Common.{arith}
use Rattle.save.specs.Saved.{little}
use Rattle.saver.proofs.Heads.{word_bytes}
use Rattle.saver.proofs.Pieces.{frame_front, frame_kind, frame_zero, frame_body}
use Rattle.saver.proofs.piece.frame_byte.Goals as goal

pub returns-in-4 : goal.returns-in-4
returns-in-4 c = frame_kind c.args.memory.now c.args.f c.requires.memory_room c.args.k c.in-4.is

pub returns-in-5 : goal.returns-in-5
returns-in-5 c = frame_zero c.args.memory.now c.args.f c.requires.memory_room c.args.k c.in-5.is

pub returns-in-0-to-3 : goal.returns-in-0-to-3
unfolding little
returns-in-0-to-3 c = rw c.to_le_bytes.ensures (frame_front c.args.memory.now c.args.f c.requires.memory_room c.args.k (omega arith))

pub returns-in_default : goal.returns-in_default
returns-in_default c = rw (c.to_le_bytes-in_default.ensures, word_bytes c.frame_word.result) (frame_body c.args.memory.now c.args.f c.requires.memory_room c.args.k _ (omega arith) c.requires.k_bound c.frame_word.ensures)
