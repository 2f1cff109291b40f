use native.Mathlib.Omega.{arith}
use borrow.Author.Tests.{ne_eqb}
use Rattle.decimal.specs.Texts.{ascii}
use Rattle.decimal.proofs.Texts.{puts}
use Rattle.look.specs.Look.{fault_of}
use Rattle.look.proofs.lines.put_fault.Goals as goal

pub returns-in-0 : goal.returns-in-0
unfolding fault_of ascii
returns-in-0 c = rw c.in-0.is (puts {most = 50} c.put_text.ensures (omega arith))

pub returns-in-1 : goal.returns-in-1
unfolding fault_of ascii
returns-in-1 c = rw c.in-1.is (puts {most = 50} c.put_text-in-1.ensures (omega arith))

pub returns-in-2 : goal.returns-in-2
unfolding fault_of ascii
returns-in-2 c = rw c.in-2.is (puts {most = 50} c.put_text-in-2.ensures (omega arith))

pub returns-in-3 : goal.returns-in-3
unfolding fault_of ascii
returns-in-3 c = rw c.in-3.is (puts {most = 50} c.put_text-in-3.ensures (omega arith))

pub returns-in-4 : goal.returns-in-4
unfolding fault_of ascii
returns-in-4 c = rw c.in-4.is (puts {most = 50} c.put_text-in-4.ensures (omega arith))

pub returns-in-5 : goal.returns-in-5
unfolding fault_of ascii
returns-in-5 c = rw c.in-5.is (puts {most = 50} c.put_text-in-5.ensures (omega arith))

pub returns-in-6 : goal.returns-in-6
unfolding fault_of ascii
returns-in-6 c = rw c.in-6.is (puts {most = 50} c.put_text-in-6.ensures (omega arith))

pub returns-in_default : goal.returns-in_default
unfolding fault_of ascii
returns-in_default c =
    let r = c.in_default.in_default-own.rest in
    rw (ne_eqb _ _ r.1, ne_eqb _ _ r.0.1, ne_eqb _ _ r.0.0.1, ne_eqb _ _ r.0.0.0.1, ne_eqb _ _ r.0.0.0.0.1, ne_eqb _ _ r.0.0.0.0.0.1, ne_eqb _ _ r.0.0.0.0.0.0.1) (puts {most = 50} c.put_text-in_default.ensures (omega arith))
