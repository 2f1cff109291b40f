use mathlib.Core.Path.{refl}
use Rattle.house.specs.Lists.{any}
use Rattle.damage.proofs.Marks.{gathered_on}
use Rattle.damage.proofs.not_zero.Goals as goal

pub loop-x-init : goal.loop-x-init
unfolding any
loop-x-init c = refl

pub loop-x-preserved : goal.loop-x-preserved
loop-x-preserved c = gathered_on c.args.places.now c.loop-x.x-index c.loop-x.bits c.loop-x.invariant
