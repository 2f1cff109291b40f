use Rattle.dlx.specs.Machine.{retabled}
use Rattle.engine.proofs.retable.Goals as goal

pub returns-in-Plain : goal.returns-in-Plain
unfolding retabled
returns-in-Plain c = λ fr ws n. simp c.in-Plain.is

pub returns-in-Special : goal.returns-in-Special
unfolding retabled
returns-in-Special c = λ fr ws n. simp c.in-Special.is

pub returns-in-Retable : goal.returns-in-Retable
unfolding retabled
returns-in-Retable c = λ fr ws n. simp (c.in-Retable.is, c.clear.ensures)

pub returns-in-Cause : goal.returns-in-Cause
unfolding retabled
returns-in-Cause c = λ fr ws n. simp c.in-Cause.is

pub returns-in-Return : goal.returns-in-Return
unfolding retabled
returns-in-Return c = λ fr ws n. simp c.in-Return.is
