use Rattle.dlx.specs.Execute.{operated}
use Rattle.std.proofs.Common.{eq-eqb, ne_eqb}
use Rattle.processor.proofs.execute.operate.Goals as goal

pub returns-then-overflows : goal.returns-then-overflows
unfolding operated
returns-then-overflows c = simp ((simp c.overflows.ensures at c.if-overflows.true), eq-eqb _ _ c.if-sr-eq1.true)

pub returns-then-sr-eq1 : goal.returns-then-sr-eq1
unfolding operated
returns-then-sr-eq1 c = simp (c.value-v.ensures, (simp c.overflows.ensures at c.if-overflows.false), eq-eqb _ _ c.if-sr-eq1.true)

pub returns : goal.returns
unfolding operated
returns c = simp (c.value-v.ensures, ne_eqb _ _ c.if-sr-eq1.false)
