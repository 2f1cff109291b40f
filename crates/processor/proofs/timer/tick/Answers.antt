use Rattle.dlx.proofs.Spells.{still_ticked}
use Rattle.std.proofs.Common.{sym, ne_eqb}
use Rattle.dlx.specs.Timer.{ticked}
use Rattle.processor.proofs.timer.tick.Goals as goal

-- src/timer.rt:15:9
pub returns-then-k-eq0 : goal.returns-then-k-eq0
unfolding ticked
returns-then-k-eq0 c = sym (still_ticked c.args.k c.if-k-eq0.true)

-- src/timer.rt:19:9
pub returns-then-k-eq1 : goal.returns-then-k-eq1
unfolding ticked
returns-then-k-eq1 c = simp c.if-k-eq1.true

-- src/timer.rt:10:1
pub returns : goal.returns
unfolding ticked
returns c = simp (ne_eqb _ _ c.if-k-eq1.false)
