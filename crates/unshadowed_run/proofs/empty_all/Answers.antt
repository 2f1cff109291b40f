use Rattle.std.proofs.Common.{refl}
use Rattle.house.specs.House.{fresh_shadows}
use Rattle.unshadowed_run.proofs.empty_all.Goals as goal

-- src/lib.rt:19:1
pub returns : goal.returns
unfolding fresh_shadows
returns c = refl
