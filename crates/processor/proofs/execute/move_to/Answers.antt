use Rattle.dlx.specs.Execute.{moved_to}
use Rattle.std.proofs.Common.{ne_eqb}
use Rattle.processor.proofs.execute.move_to.Goals as goal

pub returns-in-7 : goal.returns-in-7
unfolding moved_to
returns-in-7 c = simp (c.in-7.is)

pub returns-in-8 : goal.returns-in-8
unfolding moved_to
returns-in-8 c = simp (c.in-8.is)

pub returns-in_default : goal.returns-in_default
unfolding moved_to
returns-in_default c = simp (ne_eqb _ _ c.in_default.in_default-own.rest.1, ne_eqb _ _ c.in_default.in_default-own.rest.0.1)
