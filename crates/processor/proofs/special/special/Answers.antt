use Rattle.dlx.specs.Processor.{special_of}
use Rattle.std.proofs.Common.{ne_eqb}
use Rattle.processor.proofs.special.special.Goals as goal

-- src/special.rt:10:1
pub returns-in-0 : goal.returns-in-0
unfolding special_of
returns-in-0 c = simp (c.in-0.is)

-- src/special.rt:10:1
pub returns-in-1 : goal.returns-in-1
unfolding special_of
returns-in-1 c = simp (c.in-1.is)

-- src/special.rt:10:1
pub returns-in-2 : goal.returns-in-2
unfolding special_of
returns-in-2 c = simp (c.in-2.is)

-- src/special.rt:10:1
pub returns-in-3 : goal.returns-in-3
unfolding special_of
returns-in-3 c = simp (c.in-3.is)

-- src/special.rt:10:1
pub returns-in-4 : goal.returns-in-4
unfolding special_of
returns-in-4 c = simp (c.in-4.is)

-- src/special.rt:10:1
pub returns-in-5 : goal.returns-in-5
unfolding special_of
returns-in-5 c = simp (c.in-5.is)

-- src/special.rt:10:1
pub returns-in-6 : goal.returns-in-6
unfolding special_of
returns-in-6 c = simp (c.in-6.is)

-- src/special.rt:10:1
pub returns-in-7 : goal.returns-in-7
unfolding special_of
returns-in-7 c = simp (c.in-7.is)

-- src/special.rt:10:1
pub returns-in-8 : goal.returns-in-8
unfolding special_of
returns-in-8 c = simp (c.in-8.is)

-- src/special.rt:10:1
pub returns-in-9 : goal.returns-in-9
unfolding special_of
returns-in-9 c = simp (c.in-9.is)

-- src/special.rt:10:1
pub returns-in-10 : goal.returns-in-10
unfolding special_of
returns-in-10 c = simp (c.in-10.is)

-- src/special.rt:10:1
pub returns-in_default : goal.returns-in_default
unfolding special_of
returns-in_default c = simp (ne_eqb _ _ c.in_default.in_default-own.rest.1, ne_eqb _ _ c.in_default.in_default-own.rest.0.1, ne_eqb _ _ c.in_default.in_default-own.rest.0.0.1, ne_eqb _ _ c.in_default.in_default-own.rest.0.0.0.1, ne_eqb _ _ c.in_default.in_default-own.rest.0.0.0.0.1, ne_eqb _ _ c.in_default.in_default-own.rest.0.0.0.0.0.1, ne_eqb _ _ c.in_default.in_default-own.rest.0.0.0.0.0.0.1, ne_eqb _ _ c.in_default.in_default-own.rest.0.0.0.0.0.0.0.1, ne_eqb _ _ c.in_default.in_default-own.rest.0.0.0.0.0.0.0.0.1, ne_eqb _ _ c.in_default.in_default-own.rest.0.0.0.0.0.0.0.0.0.1, ne_eqb _ _ c.in_default.in_default-own.rest.0.0.0.0.0.0.0.0.0.0.1)
