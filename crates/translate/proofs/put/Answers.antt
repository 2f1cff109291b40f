use mathlib.Core.Path.{refl}
use Rattle.translate.proofs.put.Goals as goal

pub returns : goal.returns
returns c = rw c.place.ensures refl
