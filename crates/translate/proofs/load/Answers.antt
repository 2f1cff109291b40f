use Rattle.translate.proofs.Served.{served_inside}
use Rattle.addresses.specs.Memory.{host_reads, host_read}
use native.Mathlib.Omega.{arith}
use borrow.Author.Tests.{eq-eqb, ne_eqb}
use Rattle.translate.proofs.load.Goals as goal

pub bounds-words-wide : goal.bounds-words-wide
bounds-words-wide c = let i = served_inside _ _ _ _ _ _ c.requires.placed c.requires.shadowed c.serve-e.ensures (eq-eqb _ _ c.if-e-eq1.true) in
    omega (arith, c.wide-then-e-eq1.ensures, c.wide.ensures)

pub returns-then-e-eq1 : goal.returns-then-e-eq1
unfolding host_reads host_read
returns-then-e-eq1 c = simp (← c.serve-e.ensures, c.wide-then-e-eq1.ensures, c.wide.ensures, eq-eqb _ _ c.if-e-eq1.true)

pub returns : goal.returns
unfolding host_reads host_read
returns c = simp (← c.serve-e.ensures, ne_eqb _ _ c.if-e-eq1.false)
