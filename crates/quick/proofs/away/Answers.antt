use Rattle.quick.specs.Quick.{away_of}
use Rattle.std.proofs.Common.{refl}
use Rattle.quick.proofs.away.Goals as goal

-- src/lib.rt:64:1
pub returns : goal.returns
unfolding away_of
returns c = refl
