use mathlib.Core.Path.{refl}
use Rattle.list.specs.Words.{further}
use Rattle.list.proofs.words.further.Goals as goal

pub returns : goal.returns
unfolding further
returns c = refl
