use Rattle.dlx.specs.Machine.{handled}
use Rattle.std.proofs.Common.{eq-eqb, ne_eqb}
use Rattle.processor.proofs.execute.handle.Goals as goal

-- src/execute.rt:309:9
pub returns-then-level-eq5 : goal.returns-then-level-eq5
unfolding handled
returns-then-level-eq5 c = λ _ _. simp (c.interrupt-handler.ensures, eq-eqb _ _ (simp c.level.ensures at c.if-level-eq5.true))

-- src/execute.rt:304:1
pub returns : goal.returns
unfolding handled
returns c = λ _ _. simp (c.interrupt-handler.ensures, ne_eqb _ _ (simp c.level.ensures at c.if-level-eq5.false))
