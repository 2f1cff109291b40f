use native.Mathlib.Omega.{arith}
use Rattle.decimal.proofs.Texts.{exactly, decimal_puts, ◌then◌}
use Rattle.look.specs.Look.{named}
use Rattle.look.proofs.lines.put_named.Goals as goal

pub returns : goal.returns
unfolding named
returns c = exactly c.put_text-end.ensures then decimal_puts c.args.n (omega arith) c.put_decimal.ensures
