use Rattle.house.proofs.Turns.Kept.{following_below, next_done, next_found, next_on}
use Rattle.std.proofs.Common.{◌∙◌, arith}
use native.Mathlib.Nat.{sub-zero}
use Rattle.hypervisor.proofs.run.next.Goals as goal

pub loop-init : goal.loop-init
loop-init c = (rw sub-zero, c.requires.i_bound)

pub following-at-requires : goal.following-at-requires
following-at-requires c = c.loop.invariant.1

pub bounds-running-wide : goal.bounds-running-wide
bounds-running-wide c = omega (arith, following_below _ _ c.loop.invariant.1, c.following-at.ensures, c.wide.ensures, c.requires.n_bound)

pub returns-then-running-wide : goal.returns-then-running-wide
returns-then-running-wide c = c.following-at.ensures ∙ next_found _ _ _ _ (omega arith) (simp (c.wide.ensures, c.following-at.ensures) at c.if-running-wide.true) ∙ c.loop.invariant.0

pub loop-preserved : goal.loop-preserved
loop-preserved c = let f = c.following-at.ensures in
    (rw f (next_on _ _ _ _ (omega arith) (simp (c.wide.ensures, f) at c.if-running-wide.false) ∙ c.loop.invariant.0), rw f (following_below _ _ c.loop.invariant.1))

pub returns : goal.returns
returns c = next_done _ _ _ _ (omega arith) ∙ c.loop.invariant.0
