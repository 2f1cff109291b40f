use Rattle.dlx.specs.Fields.{loading, storing}
use Rattle.dlx.specs.Execute.{stores}
use Rattle.processor.proofs.Opcodes.{or_right}
use Rattle.processor.proofs.execute.store.Goals as goal

pub reach-requires : goal.reach-requires
reach-requires c = or_right (loading c.args.o) (storing c.args.o) c.requires

pub returns : goal.returns
unfolding stores
returns c = simp (c.reach.ensures, c.wrapping_add_u32-a.ensures.value)
