use Rattle.dlx.specs.Spells.{turned}
use Rattle.processor.proofs.execute.turn.Goals as goal

-- src/execute.rt:251:1
pub returns-in-Plain : goal.returns-in-Plain
unfolding turned
returns-in-Plain c = simp c.in-Plain.is

-- src/execute.rt:251:1
pub returns-in-Special : goal.returns-in-Special
unfolding turned
returns-in-Special c = simp (c.go.ensures, c.set_special.ensures, c.in-Special.is, c.wrapping_add_u32-next.ensures.value)

-- src/execute.rt:251:1
pub returns-in-Retable : goal.returns-in-Retable
unfolding turned
returns-in-Retable c = simp (c.go-in-Retable.ensures, c.in-Retable.is, c.wrapping_add_u32-next.ensures.value)

-- src/execute.rt:251:1
pub returns-in-Cause : goal.returns-in-Cause
unfolding turned
returns-in-Cause c = simp c.in-Cause.is

-- src/execute.rt:251:1
pub returns-in-Return : goal.returns-in-Return
unfolding turned
returns-in-Return c = simp (c.return_from_exception.ensures, c.in-Return.is)
