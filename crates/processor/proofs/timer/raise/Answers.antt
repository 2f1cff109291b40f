use Rattle.dlx.specs.Timer.{raised}
use Rattle.std.proofs.Common.{eq-eqb, ne_eqb}
use Rattle.processor.proofs.timer.raise.Goals as goal

-- src/timer.rt:30:9
pub returns-then-k-ne1 : goal.returns-then-k-ne1
unfolding raised
returns-then-k-ne1 c = simp (ne_eqb _ _ c.if-k-ne1.true)

-- src/timer.rt:33:9
pub returns-then-sr-eq1 : goal.returns-then-sr-eq1
unfolding raised
returns-then-sr-eq1 c = simp (eq-eqb _ _ c.if-k-ne1.false, eq-eqb _ _ c.if-sr-eq1.true)

-- src/timer.rt:26:1
pub returns : goal.returns
unfolding raised
returns c = simp (eq-eqb _ _ c.if-k-ne1.false, ne_eqb _ _ c.if-sr-eq1.false)
