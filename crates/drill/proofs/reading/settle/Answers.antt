use Rattle.std.proofs.Common.{ℕ, length, sym, refl, subst, arith}
use Rattle.drill.specs.Fit.{Stands}
use Rattle.drill.proofs.Commands.{stands_still, lent_within}
use Rattle.drill.proofs.reading.settle.Goals as goal

pub next-r-requires : goal.next-r-requires
next-r-requires c = c.requires.stands

pub loop-init : goal.loop-init
loop-init c =
    let s = subst (λ (b : ℕ). Stands c.next-r.result b c.args.lent) (sym c.next-r.auto.input) c.next-r.ensures in
    (refl, refl, stands_still s, omega (arith, s.lends, c.requires.memory_room))

pub returns-in_default : goal.returns-in_default
returns-in_default c = (subst (λ (b : ℕ). Stands c.loop.r b c.loop.r.lent) c.next-r.auto.input c.loop.invariant.2, c.loop.invariant.3)

pub returns-in_default-2 : goal.returns-in_default-2
returns-in_default-2 c = (subst (λ (b : ℕ). Stands c.loop.r b c.loop.r.lent) c.next-r.auto.input c.loop.invariant.2, c.loop.invariant.3)

pub changed-after-requires : goal.changed-after-requires
changed-after-requires c = omega (arith, c.loop.invariant.3, c.loop.invariant.1)

pub next-r-requires-in-Some : goal.next-r-requires-in-Some
next-r-requires-in-Some c = subst (λ (b : ℕ). Stands c.loop.r b c.loop.r.lent) (sym c.loop.invariant.0) c.loop.invariant.2

pub loop-preserved : goal.loop-preserved
loop-preserved c =
    let v = c.loop.invariant in
    let s = subst (λ (b : ℕ). Stands c.next-r-in-Some.result b c.changed-after.result) v.0 c.next-r-in-Some.ensures in
    let l = lent_within c.in-Some.c c.loop.r.lent (length c.loop.memory) (omega (arith, v.3, v.1)) in
    (omega (arith, v.0, c.next-r-in-Some.auto), omega (arith, v.1, c.changed-after.auto), stands_still s, omega (arith, s.lends, c.changed-after.ensures.0, l, v.1))

pub shape_of-input : goal.shape_of-input
shape_of-input c = omega (arith, c.loop.invariant.0, c.next-r.auto)

pub shape_of-memory : goal.shape_of-memory
shape_of-memory c = c.loop.invariant.1

pub returns : goal.returns
returns c = (subst (λ (b : ℕ). Stands c.loop.r b c.loop.r.lent) c.next-r.auto.input c.loop.invariant.2, c.loop.invariant.3)
