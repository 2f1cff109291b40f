use Rattle.std.proofs.Common.{◌+◌, arith}
use Rattle.night_run.proofs.Choices.{two_at}
use Rattle.night_run.proofs.choice.pair.Goals as goal

pub returns : goal.returns
returns c = record { value = rw (c.from.ensures, c.from-2.ensures) (two_at _ _ c.requires); upper_bound = omega (arith, c.from.ensures, c.from-2.ensures, c.type_inv.head c.args.at, c.type_inv.head (c.args.at + 1)) }
