use Rattle.std.proofs.Common.{arith, eq-eqb, ne_eqb}
use Rattle.decimal.specs.Texts.{ascii}
use Rattle.decimal.proofs.Texts.{exactly, decimal_puts, ◌then◌, nothing, roomy}
use Rattle.drill_text.specs.Partitions.{entry_of}
use Rattle.drill_text.proofs.partitions.entry.Goals as goal

pub returns-then-e-eq0 : goal.returns-then-e-eq0
unfolding entry_of
returns-then-e-eq0 c = rw (eq-eqb _ _ c.if-e-eq0.true) (roomy 42 nothing (omega arith))

pub returns : goal.returns
unfolding entry_of ascii
returns c = rw (ne_eqb _ _ c.if-e-eq0.false) (c.number-numbered.ensures then exactly c.put_byte-parted.ensures then decimal_puts c.args.e (omega arith) c.put_decimal.ensures)
