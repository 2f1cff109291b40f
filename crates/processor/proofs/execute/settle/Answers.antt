use Rattle.dlx.specs.Machine.{settled, changed}
use Rattle.dlx.specs.Spells.{turned, retimed, ended}
use Rattle.dlx.proofs.Kept.{raised_lt}
use Rattle.std.proofs.Common.{◌∙◌, arith}
use Rattle.processor.proofs.execute.settle.Goals as goal

-- src/execute.rt:331:60
pub overflow_add-causes : goal.overflow_add-causes
overflow_add-causes c = let n = rw c.in-Cause.is at c.requires in let l = raised_lt c.args.k c.args.p.sr in omega (arith, n, l, c.raise.ensures)

-- src/execute.rt:323:1
pub returns-in-Plain : goal.returns-in-Plain
unfolding ended turned retimed
returns-in-Plain c = λ regs latest. c.leave.ensures regs latest ∙ simp (c.turn.ensures, c.in-Plain.is)

-- src/execute.rt:323:1
pub returns-in-Special : goal.returns-in-Special
unfolding ended settled changed turned retimed
returns-in-Special c = λ regs latest. c.leave-in-Special.ensures regs latest ∙ simp (c.turn-in-Special.ensures, c.in-Special.is)

-- src/execute.rt:323:1
pub returns-in-Retable : goal.returns-in-Retable
unfolding ended settled changed turned retimed
returns-in-Retable c = λ regs latest. c.leave-in-Retable.ensures regs latest ∙ simp (c.turn-in-Retable.ensures, c.in-Retable.is)

-- src/execute.rt:323:1
pub returns-in-Cause : goal.returns-in-Cause
unfolding ended settled changed
returns-in-Cause c = λ regs latest. c.handle.ensures regs latest ∙ simp (c.raise.ensures, c.tick.ensures, c.in-Cause.is)

-- src/execute.rt:323:1
pub returns-in-Return : goal.returns-in-Return
unfolding ended settled changed turned retimed
returns-in-Return c = λ regs latest. c.leave-in-Return.ensures regs latest ∙ simp (c.turn-in-Return.ensures, c.in-Return.is)
