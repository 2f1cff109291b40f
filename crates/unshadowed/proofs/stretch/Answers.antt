use Rattle.unshadowed.proofs.Parts.{stretch_done, stretch_called, stretch_on, after_step}
use Rattle.addresses.specs.Premises.{Placed}
use Rattle.std.proofs.Common.{sym, refl, ◌∙◌, subst, arith}
use native.Mathlib.Nat.{sub_self}
use Rattle.unshadowed.proofs.stretch.Goals as goal

pub loop-left-init : goal.loop-left-init
loop-left-init c = (simp sub_self, refl, refl, c.requires.seated, c.requires.seated)

pub step-s-requires : goal.step-s-requires
step-s-requires c = let i = c.loop-left.invariant in record { regs_length = i.1 ∙ c.requires.regs_length; placed = subst (λ z. Placed c.args.frames.now c.args.pages z) (sym i.2) c.requires.placed; seated = i.3 }

pub returns-then-s : goal.returns-then-s
returns-then-s c = stretch_called _ _ _ _ _ _ _ _ _ _ _ (omega arith) (omega arith) c.step-s.ensures c.if-s.true ∙ c.loop-left.invariant.0

pub loop-left-preserved : goal.loop-left-preserved
loop-left-preserved c = let i = c.loop-left.invariant in let a = after_step _ _ _ _ _ _ _ _ _ _ i.3 c.step-s.ensures in (stretch_on _ _ _ _ _ _ _ _ _ _ _ (omega arith) (omega arith) c.step-s.ensures c.if-s.false ∙ i.0, omega (arith, i.1), a.0 ∙ i.2, a.1, i.4)

pub returns : goal.returns
returns c = stretch_done _ _ _ _ _ _ _ (omega arith) ∙ c.loop-left.invariant.0
