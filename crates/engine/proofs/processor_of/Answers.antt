use Rattle.engine.specs.Answers.{processor_at}
use Rattle.std.proofs.Common.{refl}
use Rattle.engine.proofs.processor_of.Goals as goal

pub returns : goal.returns
unfolding processor_at
returns c = refl
