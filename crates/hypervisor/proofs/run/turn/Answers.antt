use Rattle.house.specs.Turns.{turn_of}
use Rattle.std.proofs.Common.{eq-eqb, ne_eqb}
use Rattle.hypervisor.proofs.run.turn.Goals as goal

pub returns-then-left-made : goal.returns-then-left-made
unfolding turn_of
returns-then-left-made c = simp (c.next.ensures, eq-eqb _ _ c.if-left-made.true)

pub returns-then-called : goal.returns-then-called
unfolding turn_of
returns-then-called c = simp (c.next-then-called.ensures, c.if-called.true, ne_eqb _ _ c.if-left-made.false)

pub returns : goal.returns
unfolding turn_of
returns c = simp (c.if-called.false, ne_eqb _ _ c.if-left-made.false)
