use Rattle.engine.specs.Answers.{timer_at}
use Rattle.std.proofs.Common.{refl}
use Rattle.engine.proofs.timer_of.Goals as goal

pub returns : goal.returns
unfolding timer_at
returns c = refl
