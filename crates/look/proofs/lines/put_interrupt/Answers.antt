use native.Mathlib.Omega.{arith}
use borrow.Author.Tests.{eq-eqb, ne_eqb}
use Rattle.decimal.specs.Texts.{ascii}
use Rattle.decimal.proofs.Texts.{exactly, roomy, ◌then◌}
use Rattle.look.specs.Look.{interrupt_of}
use Rattle.look.proofs.lines.put_interrupt.Goals as goal

pub returns-then-eca-eq0 : goal.returns-then-eca-eq0
unfolding interrupt_of ascii
returns-then-eca-eq0 c = rw (eq-eqb _ _ c.if-eca-eq0.true) (roomy 99 (exactly c.put_text-first.ensures then exactly c.put_text.ensures) (omega arith))

pub returns : goal.returns
unfolding interrupt_of ascii
returns c =
    rw (ne_eqb _ _ c.if-eca-eq0.false)
    (exactly c.put_text-first.ensures
    then (rw c.level.ensures at c.put_cause-second.ensures)
    then c.put_named-third.ensures
    then exactly c.put_byte.ensures)
