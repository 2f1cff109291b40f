use Rattle.decimal.proofs.Texts.{exactly}
use Rattle.save.specs.Saved.{little}
use Rattle.saver.proofs.Heads.{word_bytes}
use Rattle.saver.proofs.head.put_word.Goals as goal

pub returns : goal.returns
unfolding little
returns c = exactly (rw (c.to_le_bytes.ensures, word_bytes c.args.w) at c.put_text.ensures)
