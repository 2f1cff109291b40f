use Rattle.std.proofs.Common.{arith}
use Rattle.decimal.specs.Texts.{ascii}
use Rattle.decimal.proofs.Texts.{exactly, decimal_puts, ◌then◌}
use Rattle.drill_text.specs.Numbers.{number_of}
use Rattle.drill_text.proofs.numbers.number.Goals as goal

pub returns : goal.returns
unfolding number_of ascii
returns c = exactly c.put_byte-space.ensures then decimal_puts c.args.n (omega arith) c.put_decimal.ensures
