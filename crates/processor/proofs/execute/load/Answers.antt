use Rattle.dlx.specs.Execute.{loads}
use Rattle.processor.proofs.Opcodes.{or_left}
use Rattle.processor.proofs.execute.load.Goals as goal

pub reach-requires : goal.reach-requires
reach-requires c = or_left _ _ c.requires

pub returns : goal.returns
unfolding loads
returns c = simp (c.reach.ensures, c.wrapping_add_u32-a.ensures.value)
