use Rattle.std.proofs.Common.{arith}
use Rattle.night_run.proofs.Pieces.{counts_at}
use Rattle.night_run.proofs.input.Taken.in_head.Goals as goal

pub returns : goal.returns
returns c = record { prefix_len = counts_at _ _ (omega (arith, c.min.ensures)); value = λ l. omega (arith, c.min.ensures) }
