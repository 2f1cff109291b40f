use Rattle.house.specs.Calls.{stopped}
use Rattle.std.proofs.Common.{eq-eqb, ne_eqb}
use Rattle.hypervisor.proofs.single.stop.Goals as goal

pub returns-then-h-eq0 : goal.returns-then-h-eq0
unfolding stopped
returns-then-h-eq0 c = simp (c.with_turn.ensures, c.wide.ensures, eq-eqb _ _ c.if-h-eq0.true)

pub returns-then-h-i : goal.returns-then-h-i
unfolding stopped
returns-then-h-i c = simp (c.with_turn-then-h-i.ensures, c.wide.ensures, ne_eqb _ _ c.if-h-i.true, ne_eqb _ _ c.if-h-eq0.false)

pub returns-then-any_runs : goal.returns-then-any_runs
unfolding stopped
returns-then-any_runs c = simp (c.with_turn-then-any_runs.ensures, c.next-c.ensures, c.wide.ensures, (simp (c.any_runs.ensures, c.wide-2.ensures, c.wide.ensures) at c.if-any_runs.true), eq-eqb _ _ c.if-h-i.false, ne_eqb _ _ c.if-h-eq0.false)

pub returns : goal.returns
unfolding stopped
returns c = simp (c.with_turn-2.ensures, c.wide.ensures, (simp (c.any_runs.ensures, c.wide-2.ensures, c.wide.ensures) at c.if-any_runs.false), eq-eqb _ _ c.if-h-i.false, ne_eqb _ _ c.if-h-eq0.false)
