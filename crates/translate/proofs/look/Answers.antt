use mathlib.Core.Path.{sym}
use Rattle.translate.proofs.Served.{looked_none}
use Rattle.addresses.specs.Memory.{looked, filled}
use borrow.Author.Tests.{eq-eqb, ne_eqb}
use Rattle.translate.proofs.look.Goals as goal

pub returns-then-px-ge-LIMIT : goal.returns-then-px-ge-LIMIT
unfolding looked filled
returns-then-px-ge-LIMIT c = rw c.walk.ensures (sym (looked_none _ _ _ _ _ _ c.requires.shadowed.count c.if-px-ge-LIMIT.true))

pub returns-then-e-eq1 : goal.returns-then-e-eq1
unfolding looked filled
returns-then-e-eq1 c = simp (c.wide.ensures, eq-eqb _ _ (simp c.wide.ensures at c.if-e-eq1.true))

pub returns-then-w-eq1 : goal.returns-then-w-eq1
unfolding looked filled
returns-then-w-eq1 c = simp (c.wide-then-w-eq1.ensures, c.walk-w.ensures, eq-eqb _ _ (simp c.walk-w.ensures at c.if-w-eq1.true), ne_eqb _ _ (simp c.wide.ensures at c.if-e-eq1.false))

pub returns : goal.returns
unfolding looked filled
returns c = simp (c.walk-w.ensures, ne_eqb _ _ (simp c.walk-w.ensures at c.if-w-eq1.false), ne_eqb _ _ (simp c.wide.ensures at c.if-e-eq1.false))
