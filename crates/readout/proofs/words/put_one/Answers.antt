use Rattle.std.proofs.Common.{arith}
use Rattle.decimal.proofs.Texts.{roomy}
use Rattle.readout.specs.Printed.{text_in}
use Rattle.readout.proofs.words.put_one.Goals as goal

pub returns-in-Raw : goal.returns-in-Raw
unfolding text_in
returns-in-Raw c = rw (c.in-Raw.is, text_in) (roomy 12 c.put_raw.ensures (omega arith))

pub returns-in-Signed : goal.returns-in-Signed
unfolding text_in
returns-in-Signed c = rw (c.in-Signed.is, text_in) c.put_with_sign.ensures

pub returns-in-Unsigned : goal.returns-in-Unsigned
unfolding text_in
returns-in-Unsigned c = rw (c.in-Unsigned.is, text_in) (roomy 12 c.put_word.ensures (omega arith))
