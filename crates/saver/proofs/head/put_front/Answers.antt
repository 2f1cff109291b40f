use Rattle.decimal.proofs.Texts.{exactly, ◌then◌}
use Rattle.save.specs.Saved.{little}
use Rattle.saver.proofs.head.put_front.Goals as goal

pub returns : goal.returns
unfolding little
returns c = c.put_word-first.ensures then exactly (rw c.to_le_bytes.ensures at c.put_text.ensures)
