use Rattle.house.specs.Calls.{started}
use Rattle.std.proofs.Common.{eq-eqb, ne_eqb}
use Rattle.hypervisor.proofs.single.start.Goals as goal

pub returns-then-h-eq0 : goal.returns-then-h-eq0
unfolding started
returns-then-h-eq0 c = simp (c.with_turn.ensures, c.wide.ensures, eq-eqb _ _ c.if-h-eq0.true)

pub returns : goal.returns
unfolding started
returns c = simp (c.with_turn-2.ensures, c.wide.ensures, ne_eqb _ _ c.if-h-eq0.false)
