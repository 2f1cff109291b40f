use native.Mathlib.Omega.{arith}
use Rattle.decimal.proofs.Texts.{signed_low, signed_high}
use Rattle.decimal.specs.Texts.{text}
use Rattle.decimal.proofs.put_signed.Goals as goal

pub returns-then-v-size : goal.returns-then-v-size
returns-then-v-size c = signed_low c.args.size c.args.v (text c.args.out.now c.args.at) (omega arith) c.put_decimal.ensures

pub returns-else-v-size : goal.returns-else-v-size
returns-else-v-size c = signed_high c.args.size c.args.v (text c.args.out.now c.args.at) (omega arith) c.put_byte-minus.ensures c.put_decimal-else-v-size.ensures
