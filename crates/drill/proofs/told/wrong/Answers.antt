use Rattle.std.proofs.Common.{arith}
use Rattle.decimal.specs.Texts.{ascii}
use Rattle.decimal.proofs.Texts.{exactly, decimal_puts, ◌then◌}
use Rattle.drill.proofs.told.wrong.Goals as goal

pub returns : goal.returns
unfolding ascii
returns c = exactly c.put_text-named.ensures then decimal_puts c.args.offset (omega arith) c.put_decimal-told.ensures then exactly c.put_byte.ensures
