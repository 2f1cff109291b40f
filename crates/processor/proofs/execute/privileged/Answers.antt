use Rattle.std.proofs.Common.{eq-eqb, ne_eqb}
use Rattle.processor.proofs.execute.privileged.Goals as goal

pub returns-then-p-eq1 : goal.returns-then-p-eq1
returns-then-p-eq1 c = simp (eq-eqb _ _ c.if-p-eq1.true)

pub returns : goal.returns
returns c = simp (ne_eqb _ _ c.if-p-eq1.false)
