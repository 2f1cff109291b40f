use Rattle.save.specs.Saved.{frame_words}
use Rattle.saver.proofs.Pieces.{frame_word_at}
use Rattle.saver.proofs.piece.frame_word.Goals as goal

pub returns-then-j-eq0 : goal.returns-then-j-eq0
unfolding frame_words
returns-then-j-eq0 c = rw c.if-j-eq0.true

pub returns-else-j-eq0 : goal.returns-else-j-eq0
returns-else-j-eq0 c = frame_word_at c.args.memory.now c.args.f c.requires.memory_room c.args.j c.if-j-eq0.false c.requires.j_bound
