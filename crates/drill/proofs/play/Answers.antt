use Rattle.std.proofs.Common.{ℕ, length, sym, refl, subst, arith}
use Rattle.drill.specs.Fit.{Stands}
use Rattle.drill.specs.Goes.{Goes}
use Rattle.drill.proofs.play.Goals as goal

pub loop-init : goal.loop-init
loop-init c = let z = c.first-reached.ensures in (record { stands = subst (λ (b : ℕ). Stands c.first-reached.result b c.first-reached.result.lent) (sym c.first-reached.auto.input) z.0; lent = omega (arith, z.1, c.first-reached.auto); used = omega arith }, refl, refl)

pub finish-requires : goal.finish-requires
finish-requires c = omega (arith, c.loop.invariant.0.used)

pub turn-s-requires : goal.turn-s-requires
turn-s-requires c = let v = c.loop.invariant in let g = subst (λ (x : ℕ). Goes c.loop.s (length c.first-reached.new.input) x) (sym v.2) v.0 in record { goes = subst (λ (x : ℕ). Goes c.loop.s x (length c.loop.memory)) (sym v.1) g; at_hand = c.in-Some.is }

pub loop-preserved : goal.loop-preserved
loop-preserved c = let v = c.loop.invariant in let k = c.turn-s.auto in let g = subst (λ (x : ℕ). Goes c.turn-s.result x (length c.loop.memory)) v.1 c.turn-s.ensures in (subst (λ (x : ℕ). Goes c.turn-s.result (length c.first-reached.new.input) x) v.2 g, omega (arith, v.1, k), omega (arith, v.2, k))

pub shape_of-input : goal.shape_of-input
shape_of-input c = omega (arith, c.loop.invariant.1, c.first-reached.auto)

pub shape_of-memory : goal.shape_of-memory
shape_of-memory c = omega (arith, c.loop.invariant.2, c.first-reached.auto)
