use Rattle.std.proofs.Common.{refl, arith}
use Rattle.plain.proofs.near.Goals as goal

pub extend-requires : goal.extend-requires
extend-requires c = (15, omega arith, refl)

pub returns : goal.returns
returns c = c.extend.ensures
