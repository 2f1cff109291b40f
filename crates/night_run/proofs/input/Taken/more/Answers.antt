use mathlib.Core.Path.{refl}
use Rattle.night_run.proofs.input.Taken.more.Goals as goal

pub returns : goal.returns
returns c = refl
