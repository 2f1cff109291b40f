use Rattle.dlx.specs.Execute.{written}
use Rattle.std.proofs.Common.{eq-eqb, ne_eqb}
use Rattle.processor.proofs.execute.write.Goals as goal

pub returns-then-rd-ne0 : goal.returns-then-rd-ne0
unfolding written
returns-then-rd-ne0 c = simp (ne_eqb _ _ c.if-rd-ne0.true)

pub returns-else-rd-ne0 : goal.returns-else-rd-ne0
unfolding written
returns-else-rd-ne0 c = simp (eq-eqb _ _ c.if-rd-ne0.false)
