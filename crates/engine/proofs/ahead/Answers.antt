use Rattle.addresses.specs.Premises.{Placed}
use Rattle.engine.proofs.Leads.{leads_none, leads_then}
use Rattle.std.proofs.Common.{sym, refl, ◌∙◌, subst, arith}
use Rattle.engine.proofs.ahead.Goals as goal

pub loop-left-init : goal.loop-left-init
loop-left-init c = (leads_none _ _ _ _ _ _ _, c.requires.s_length, refl, refl)

pub leap-requires : goal.leap-requires
leap-requires c = let i = c.loop-left.invariant in record { s_length = i.1; regs_length = i.2 ∙ c.requires.regs_length; placed = subst (λ z. Placed c.args.frames.now c.args.pages z) (sym i.3) c.requires.placed; shadowed = c.requires.shadowed; n_positive = c.loop-left-test.true }

pub shape_of-s-in-Break : goal.shape_of-s-in-Break
shape_of-s-in-Break c = omega (arith, c.leap.ensures.1, c.requires.s_length)

pub shape_of-regs-in-Break : goal.shape_of-regs-in-Break
shape_of-regs-in-Break c = omega (arith, c.leap.ensures.2, c.loop-left.invariant.2)

pub shape_of-words-in-Break : goal.shape_of-words-in-Break
shape_of-words-in-Break c = omega (arith, c.leap.ensures.3, c.loop-left.invariant.3)

pub returns-in-Break : goal.returns-in-Break
returns-in-Break c = let i = c.loop-left.invariant in let e = c.leap.ensures in let d = rw c.in-Break.is at e.0 in (leads_then _ _ _ _ _ _ _ _ _ _ _ _ _ _ _ i.0 d, e.1, e.2 ∙ i.2, e.3 ∙ i.3)

pub loop-left-smaller : goal.loop-left-smaller
loop-left-smaller c = let d = rw c.in-Continue.is at c.leap.ensures.0 in d.1

pub loop-left-preserved : goal.loop-left-preserved
loop-left-preserved c = let i = c.loop-left.invariant in let e = c.leap.ensures in let d = rw c.in-Continue.is at e.0 in (leads_then _ _ _ _ _ _ _ _ _ _ _ _ _ _ _ i.0 d.0, e.1, e.2 ∙ i.2, e.3 ∙ i.3)

pub shape_of-s : goal.shape_of-s
shape_of-s c = omega (arith, c.loop-left.invariant.1, c.requires.s_length)

pub shape_of-regs : goal.shape_of-regs
shape_of-regs c = omega (arith, c.loop-left.invariant.2)

pub shape_of-words : goal.shape_of-words
shape_of-words c = omega (arith, c.loop-left.invariant.3)

pub returns : goal.returns
returns c = c.loop-left.invariant
