use Rattle.asked.specs.Words.{row_ended}
use Rattle.asked.proofs.words.row_ended.Goals as goal

pub returns-in_default : goal.returns-in_default
unfolding row_ended
returns-in_default c = simp c.in_default.is

pub returns : goal.returns
unfolding row_ended
returns c = simp (c.in-Some.is, c.put_at.ensures)
