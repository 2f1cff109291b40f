use Rattle.quick.proofs.Laws.{goes_none, goes_more, found_none, cached_here, numbered_pair}
use Rattle.addresses.specs.Premises.{Placed}
use Rattle.addresses.proofs.Entries.{placed_listed}
use Rattle.std.proofs.Common.{sym, refl, ◌∙◌, subst, arith, eq-eqb}
use Rattle.quick.proofs.plain.Goals as goal

pub loop-rest-init : goal.loop-rest-init
loop-rest-init c = (goes_none _ _ _ _ _ _ _ _ _ _ refl refl, refl, refl)

pub seen-e-requires : goal.seen-e-requires
seen-e-requires c = record { listed = placed_listed c.requires.placed; shadow_length = c.requires.shadowed.count }

pub shape_of-regs-then-e-ne1 : goal.shape_of-regs-then-e-ne1
shape_of-regs-then-e-ne1 c = omega (arith, c.loop-rest.invariant.1)

pub shape_of-words-then-e-ne1 : goal.shape_of-words-then-e-ne1
shape_of-words-then-e-ne1 c = omega (arith, c.loop-rest.invariant.2)

pub returns-then-e-ne1 : goal.returns-then-e-ne1
returns-then-e-ne1 c = (c.loop-rest.invariant.0, c.loop-rest.invariant.1, c.loop-rest.invariant.2, found_none _ _ _ _ c.args.k c.args.p _ _ _)

pub overflow_sub-page : goal.overflow_sub-page
overflow_sub-page c = omega arith

pub in_page-q-requires : goal.in_page-q-requires
in_page-q-requires c = let i = c.loop-rest.invariant in record { regs_length = i.1 ∙ c.requires.regs_length; placed = subst (λ z. Placed c.args.frames.now c.args.pages z) (sym i.2) c.requires.placed; shadowed = c.requires.shadowed; cached = cached_here _ _ _ _ c.loop-rest.dpc _ _ _ c.seen-e.ensures (eq-eqb _ _ c.if-e-ne1.false) (omega arith) (simp c.wide-base.ensures); numbered = numbered_pair c.args.specials.now c.args.p c.args.t _ _ c.requires.numbered }

pub shape_of-regs-then-q-ne0 : goal.shape_of-regs-then-q-ne0
shape_of-regs-then-q-ne0 c = omega (arith, c.in_page-q.ensures.1, c.loop-rest.invariant.1)

pub shape_of-words-then-q-ne0 : goal.shape_of-words-then-q-ne0
shape_of-words-then-q-ne0 c = omega (arith, c.in_page-q.ensures.2, c.loop-rest.invariant.2)

pub returns-then-q-ne0 : goal.returns-then-q-ne0
returns-then-q-ne0 c = (goes_more _ _ _ _ _ c.args.p _ _ _ _ _ _ _ _ _ _ _ _ c.loop-rest.invariant.0 c.in_page-q.ensures.0, omega (arith, c.in_page-q.ensures.1, c.loop-rest.invariant.1), omega (arith, c.in_page-q.ensures.2, c.loop-rest.invariant.2), c.in_page-q.ensures.3)

pub shape_of-regs-then-q-rest : goal.shape_of-regs-then-q-rest
shape_of-regs-then-q-rest c = omega (arith, c.in_page-q.ensures.1, c.loop-rest.invariant.1)

pub shape_of-words-then-q-rest : goal.shape_of-words-then-q-rest
shape_of-words-then-q-rest c = omega (arith, c.in_page-q.ensures.2, c.loop-rest.invariant.2)

pub returns-then-q-rest : goal.returns-then-q-rest
returns-then-q-rest c = (goes_more _ _ _ _ _ c.args.p _ _ _ _ _ _ _ _ _ _ _ _ c.loop-rest.invariant.0 c.in_page-q.ensures.0, omega (arith, c.in_page-q.ensures.1, c.loop-rest.invariant.1), omega (arith, c.in_page-q.ensures.2, c.loop-rest.invariant.2), c.in_page-q.ensures.3)

pub loop-rest-smaller : goal.loop-rest-smaller
loop-rest-smaller c = let l = c.in_page-q.ensures.0.0 in omega (arith, l, c.if-q-rest.false)

pub loop-rest-preserved : goal.loop-rest-preserved
loop-rest-preserved c = (goes_more _ _ _ _ _ c.args.p _ _ _ _ _ _ _ _ _ _ _ _ c.loop-rest.invariant.0 c.in_page-q.ensures.0, omega (arith, c.in_page-q.ensures.1, c.loop-rest.invariant.1), omega (arith, c.in_page-q.ensures.2, c.loop-rest.invariant.2))

pub shape_of-regs : goal.shape_of-regs
shape_of-regs c = omega (arith, c.loop-rest.invariant.1)

pub shape_of-words : goal.shape_of-words
shape_of-words c = omega (arith, c.loop-rest.invariant.2)

pub returns : goal.returns
returns c = (c.loop-rest.invariant.0, c.loop-rest.invariant.1, c.loop-rest.invariant.2, found_none _ _ _ _ c.args.k c.args.p _ _ _)
