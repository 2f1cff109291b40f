use native.Mathlib.Omega.{arith}
use borrow.Author.Tests.{eq-eqb, ne_eqb}
use Rattle.decimal.specs.Texts.{ascii}
use Rattle.decimal.proofs.Texts.{roomy, ◌then◌}
use Rattle.look.specs.Look.{register_of}
use Rattle.look.proofs.lines.put_register.Goals as goal

pub returns-then-j-eq0 : goal.returns-then-j-eq0
unfolding register_of ascii
returns-then-j-eq0 c = rw (eq-eqb _ _ c.if-j-eq0.true) (c.put_named-row.ensures then c.put_named.ensures)

pub returns : goal.returns
unfolding register_of ascii
returns c = rw (ne_eqb _ _ c.if-j-eq0.false) (roomy 46 c.put_named-2.ensures (omega arith))
