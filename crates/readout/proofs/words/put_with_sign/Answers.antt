use native.Mathlib.Omega.{arith}
use Rattle.decimal.proofs.Texts.{exactly, signed_puts, ◌then◌}
use Rattle.readout.proofs.words.put_with_sign.Goals as goal

pub returns : goal.returns
returns c = signed_puts c.args.w (omega arith) c.put_signed-number.ensures then exactly c.put_byte.ensures
