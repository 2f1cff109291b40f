use Rattle.unshadowed.proofs.Parts.{sought_inside}
use Rattle.unshadowed.specs.Memory.{sought_read}
use Rattle.std.proofs.Common.{arith, eq-eqb, ne_eqb}
use Rattle.unshadowed.proofs.load.Goals as goal

-- src/lib.rt:58:29
pub bounds-words-wide : goal.bounds-words-wide
bounds-words-wide c = let i = sought_inside _ _ _ _ _ c.requires c.seek-e.ensures (eq-eqb _ _ c.if-e-eq1.true) in
    omega (arith, c.wide-then-e-eq1.ensures, c.wide.ensures)

-- src/lib.rt:58:9
pub returns-then-e-eq1 : goal.returns-then-e-eq1
unfolding sought_read
returns-then-e-eq1 c = simp (← c.seek-e.ensures, c.wide-then-e-eq1.ensures, c.wide.ensures, eq-eqb _ _ c.if-e-eq1.true)

-- src/lib.rt:52:1
pub returns : goal.returns
unfolding sought_read
returns c = simp (← c.seek-e.ensures, ne_eqb _ _ c.if-e-eq1.false)
