use Rattle.dlx.specs.Spells.{retimed}
use Rattle.processor.proofs.execute.retime.Goals as goal

-- src/execute.rt:264:1
pub returns-in-Plain : goal.returns-in-Plain
unfolding retimed
returns-in-Plain c = simp c.in-Plain.is

-- src/execute.rt:264:1
pub returns-in-Special : goal.returns-in-Special
unfolding retimed
returns-in-Special c = simp (c.set_count.ensures, c.in-Special.is)

-- src/execute.rt:264:1
pub returns-in-Retable : goal.returns-in-Retable
unfolding retimed
returns-in-Retable c = simp c.in-Retable.is

-- src/execute.rt:264:1
pub returns-in-Cause : goal.returns-in-Cause
unfolding retimed
returns-in-Cause c = simp c.in-Cause.is

-- src/execute.rt:264:1
pub returns-in-Return : goal.returns-in-Return
unfolding retimed
returns-in-Return c = simp c.in-Return.is
