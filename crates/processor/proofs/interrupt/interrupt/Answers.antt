use Rattle.dlx.specs.Interrupts.{interrupted}
use Rattle.std.proofs.Common.{ne_eqb}
use Rattle.processor.proofs.interrupt.interrupt.Goals as goal

-- src/interrupt.rt:26:1
pub returns-in-1 : goal.returns-in-1
unfolding interrupted
returns-in-1 c = simp (c.enter.ensures, simp c.level.ensures at c.in-1.is)

-- src/interrupt.rt:26:1
pub returns-in-2 : goal.returns-in-2
unfolding interrupted
returns-in-2 c = simp (c.enter-in-2.ensures, simp c.level.ensures at c.in-2.is)

-- src/interrupt.rt:26:1
pub returns-in-3 : goal.returns-in-3
unfolding interrupted
returns-in-3 c = simp (c.enter-in-3.ensures, simp c.level.ensures at c.in-3.is)

-- src/interrupt.rt:26:1
pub returns-in-4 : goal.returns-in-4
unfolding interrupted
returns-in-4 c = simp (c.enter-in-4.ensures, simp c.level.ensures at c.in-4.is)

-- src/interrupt.rt:26:1
pub returns-in-5 : goal.returns-in-5
unfolding interrupted
returns-in-5 c = simp (c.enter-in-5.ensures, c.wrapping_add_u32-behind.ensures.value, simp c.level.ensures at c.in-5.is)

-- src/interrupt.rt:26:1
pub returns-in-13 : goal.returns-in-13
unfolding interrupted
returns-in-13 c = simp (c.enter-in-13.ensures, simp c.level.ensures at c.in-13.is)

-- src/interrupt.rt:26:1
pub returns-in_default : goal.returns-in_default
unfolding interrupted
returns-in_default c = simp (c.enter-in_default.ensures, c.wrapping_add_u32-behind.ensures.value, ne_eqb _ _ (simp c.level.ensures at c.in_default.in_default-own.rest.1), ne_eqb _ _ (simp c.level.ensures at c.in_default.in_default-own.rest.0.1), ne_eqb _ _ (simp c.level.ensures at c.in_default.in_default-own.rest.0.0.1), ne_eqb _ _ (simp c.level.ensures at c.in_default.in_default-own.rest.0.0.0.1), ne_eqb _ _ (simp c.level.ensures at c.in_default.in_default-own.rest.0.0.0.0.1), ne_eqb _ _ (simp c.level.ensures at c.in_default.in_default-own.rest.0.0.0.0.0.1))
