use native.Mathlib.Nat.{add-sub_cancel_left}
use Rattle.dlx.specs.Parts.{inner, outer}
use borrow.Author.Tests.{eq-eqb, ne_eqb}
use Rattle.tickets.specs.Queues.{taking}
use Rattle.tickets.proofs.take.Goals as goal

-- src/lib.rt:50:9
pub returns-then-n-eq0 : goal.returns-then-n-eq0
unfolding taking
returns-then-n-eq0 c = simp (c.wide-j.ensures, eq-eqb _ _ (simp c.wide-j.ensures at c.if-n-eq0.true))

-- src/lib.rt:43:1
pub returns : goal.returns
unfolding taking inner outer
returns c = simp (add-sub_cancel_left, c.shift.ensures, c.wide-j.ensures, ne_eqb _ _ (simp c.wide-j.ensures at c.if-n-eq0.false))
