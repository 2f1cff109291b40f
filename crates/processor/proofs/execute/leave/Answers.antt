use Rattle.dlx.specs.Machine.{left}
use Rattle.dlx.proofs.Spells.{still_ticked, still_raised}
use Rattle.std.proofs.Common.{ne_eqb}
use Rattle.processor.proofs.execute.leave.Goals as goal

-- src/execute.rt:281:9
pub returns-then-k-eq0 : goal.returns-then-k-eq0
unfolding left
returns-then-k-eq0 c = λ _ _. simp (c.retime.ensures, still_ticked c.args.k c.if-k-eq0.true, still_raised c.args.k c.args.sr c.if-k-eq0.true)

-- src/execute.rt:290:9
pub returns-then-causes-eq0 : goal.returns-then-causes-eq0
unfolding left
returns-then-causes-eq0 c = λ _ _. simp (c.retime-timer.ensures, c.tick.ensures, simp c.raise-causes.ensures at c.if-causes-eq0.true)

-- src/execute.rt:277:1
pub returns : goal.returns
unfolding left
returns c = λ _ _. simp (c.interrupt.ensures, c.raise-causes.ensures, c.retime-timer.ensures, c.tick.ensures, ne_eqb _ _ (simp c.raise-causes.ensures at c.if-causes-eq0.false))
