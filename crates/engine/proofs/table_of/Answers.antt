use Rattle.engine.specs.Answers.{table_at}
use Rattle.std.proofs.Common.{refl}
use Rattle.engine.proofs.table_of.Goals as goal

pub returns : goal.returns
unfolding table_at
returns c = refl
