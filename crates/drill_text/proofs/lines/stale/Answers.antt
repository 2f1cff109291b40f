use Rattle.std.proofs.Common.{arith}
use Rattle.decimal.specs.Texts.{ascii}
use Rattle.decimal.proofs.Texts.{exactly, ◌then◌, roomy}
use Rattle.drill_text.specs.Lines.{stale_of}
use Rattle.drill_text.proofs.lines.stale.Goals as goal

pub returns-in_default : goal.returns-in_default
unfolding stale_of ascii
returns-in_default c = rw c.in_default.is (roomy 48 (exactly c.put_text.ensures) (omega arith))

pub returns : goal.returns
unfolding stale_of ascii
returns c = rw c.in-Some.is (exactly c.put_text-named.ensures then (rw (c.from.ensures, c.from-2.ensures) at c.pair.ensures))
