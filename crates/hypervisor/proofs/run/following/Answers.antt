use Rattle.std.proofs.Common.{eq-eqb, ne_eqb}
use Rattle.hypervisor.proofs.run.following.Goals as goal

pub returns-then-i-n : goal.returns-then-i-n
returns-then-i-n c = simp (eq-eqb _ _ c.if-i-n.true)

pub returns : goal.returns
returns c = simp (ne_eqb _ _ c.if-i-n.false)
