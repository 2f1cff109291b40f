use Rattle.dlx.specs.Processor.{with_count}
use Rattle.std.proofs.Common.{ne_eqb}
use Rattle.processor.proofs.special.set_count.Goals as goal

-- src/special.rt:72:1
pub returns-in-10 : goal.returns-in-10
unfolding with_count
returns-in-10 c = simp (c.in-10.is)

-- src/special.rt:72:1
pub returns-in-11 : goal.returns-in-11
unfolding with_count
returns-in-11 c = simp (c.in-11.is)

-- src/special.rt:72:1
pub returns-in_default : goal.returns-in_default
unfolding with_count
returns-in_default c = simp (ne_eqb _ _ c.in_default.in_default-own.rest.1, ne_eqb _ _ c.in_default.in_default-own.rest.0.1)
