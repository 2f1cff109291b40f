use Rattle.engine.proofs.Parts.{stretch_done}
use Rattle.engine.proofs.Leads.{list_long, leads_first, leads_within, called_at, on_at, whole_at}
use Rattle.addresses.specs.Premises.{Placed}
use Rattle.std.proofs.Common.{sym, refl, ◌∙◌, subst, arith}
use Rattle.engine.proofs.turn.Goals as goal

pub ahead-rest-requires : goal.ahead-rest-requires
ahead-rest-requires c = record { s_length = c.requires.lengths.0; regs_length = c.requires.lengths.1; placed = c.requires.placed; shadowed = c.requires.shadowed }

pub loop-rest-init : goal.loop-rest-init
loop-rest-init c = let a = c.ahead-rest.ensures in (refl, a.0.most, refl, refl, record { long = refl; shadowed = c.requires.shadowed }, c.requires.seated, c.requires.seated, a.1)

pub processor_of-p-requires : goal.processor_of-p-requires
processor_of-p-requires c = c.loop-rest.invariant.7

pub table_of-t-requires : goal.table_of-t-requires
table_of-t-requires c = c.loop-rest.invariant.7

pub timer_of-k-requires : goal.timer_of-k-requires
timer_of-k-requires c = c.loop-rest.invariant.7

pub general-s-requires : goal.general-s-requires
general-s-requires c = let i = c.loop-rest.invariant in let a = c.ahead-rest.ensures in record { regs_length = i.2 ∙ a.2 ∙ c.requires.lengths.1; placed = subst (λ z. Placed c.args.frames.now c.args.pages z) (sym (i.4.long ∙ a.3)) c.requires.placed; shadowed = i.4.shadowed; seated = i.5 }

pub fill-requires : goal.fill-requires
fill-requires c = c.loop-rest.invariant.7

pub overflow_sub-rest : goal.overflow_sub-rest
overflow_sub-rest c = omega (arith, c.loop-rest-test.true)

pub overflow_sub-made : goal.overflow_sub-made
overflow_sub-made c = omega (arith, c.loop-rest.invariant.1)

pub shape_of-state-then-s : goal.shape_of-state-then-s
shape_of-state-then-s c = omega (arith, c.loop-rest.invariant.7, c.requires.lengths.0)

pub shape_of-regs-then-s : goal.shape_of-regs-then-s
shape_of-regs-then-s c = omega (arith, c.loop-rest.invariant.2, c.ahead-rest.ensures.2)

pub shape_of-shadow-then-s : goal.shape_of-shadow-then-s
shape_of-shadow-then-s c = omega (arith, c.loop-rest.invariant.3)

pub shape_of-words-then-s : goal.shape_of-words-then-s
shape_of-words-then-s c = omega (arith, c.loop-rest.invariant.4.long, c.ahead-rest.ensures.3)

pub shape_of-tickets-then-s : goal.shape_of-tickets-then-s
shape_of-tickets-then-s c = omega (arith, c.loop-rest.invariant.5.queued.tickets, c.loop-rest.invariant.6.queued.tickets)

pub shape_of-waiting-then-s : goal.shape_of-waiting-then-s
shape_of-waiting-then-s c = omega (arith, c.loop-rest.invariant.5.queued.waiting, c.loop-rest.invariant.6.queued.waiting)

pub returns-then-s : goal.returns-then-s
returns-then-s c = record { turned = called_at c.args.frames.now c.args.pages c.args.count c.args.i c.args.n _ _ _ _ _ _ _ _ _ _ _ _ _ _ _ _ _ _ _ _ c.processor_of-p.ensures c.table_of-t.ensures c.timer_of-k.ensures c.general-s.ensures c.fill.ensures c.loop-rest-test.true c.loop-rest.invariant.1 c.if-s.true ∙ c.loop-rest.invariant.0 ∙ leads_first _ _ _ _ _ _ _ _ _ _ _ _ _ _ _ c.ahead-rest.ensures.0; state_length = list_long _ _ _ _ c.fill.ensures }

pub ahead-rest-requires-in-loop-rest : goal.ahead-rest-requires-in-loop-rest
ahead-rest-requires-in-loop-rest c = let i = c.loop-rest.invariant in let a = whole_at c.args.frames.now c.args.pages c.args.count c.args.i c.args.n _ _ _ _ _ _ _ _ _ _ _ _ _ _ _ _ _ _ _ _ c.processor_of-p.ensures c.table_of-t.ensures c.timer_of-k.ensures c.general-s.ensures c.fill.ensures c.loop-rest-test.true c.loop-rest.invariant.1 _ i.4 i.5 in let b = c.ahead-rest.ensures in record { s_length = list_long _ _ _ _ c.fill.ensures; regs_length = omega (arith, i.2, b.2, c.requires.lengths.1, c.regs-in-loop-rest-1); placed = subst (λ z. Placed c.args.frames.now c.args.pages z) (sym (a.0.long ∙ b.3)) c.requires.placed; shadowed = a.0.shadowed }

pub loop-rest-smaller : goal.loop-rest-smaller
loop-rest-smaller c = omega (arith, c.ahead-rest-in-loop-rest.ensures.0.most, c.loop-rest-test.true)

pub loop-rest-preserved : goal.loop-rest-preserved
loop-rest-preserved c = let i = c.loop-rest.invariant in let a = whole_at c.args.frames.now c.args.pages c.args.count c.args.i c.args.n _ _ _ _ _ _ _ _ _ _ _ _ _ _ _ _ _ _ _ _ c.processor_of-p.ensures c.table_of-t.ensures c.timer_of-k.ensures c.general-s.ensures c.fill.ensures c.loop-rest-test.true c.loop-rest.invariant.1 _ i.4 i.5 in let e = c.ahead-rest-in-loop-rest.ensures in (leads_within _ _ _ _ _ _ _ _ _ _ _ _ _ _ _ _ (omega (arith, i.1)) e.0 ∙ on_at c.args.frames.now c.args.pages c.args.count c.args.i c.args.n _ _ _ _ _ _ _ _ _ _ _ _ _ _ _ _ _ _ _ _ c.processor_of-p.ensures c.table_of-t.ensures c.timer_of-k.ensures c.general-s.ensures c.fill.ensures c.loop-rest-test.true c.loop-rest.invariant.1 c.if-s.false ∙ i.0, omega (arith, e.0.most, i.1), omega (arith, e.2, i.2, c.regs-in-loop-rest-1), omega (arith, i.3), record { long = e.3 ∙ a.0.long; shadowed = a.0.shadowed }, a.1, i.6, e.1)

pub shape_of-state : goal.shape_of-state
shape_of-state c = omega (arith, c.loop-rest.invariant.7, c.requires.lengths.0)

pub shape_of-regs : goal.shape_of-regs
shape_of-regs c = omega (arith, c.loop-rest.invariant.2, c.ahead-rest.ensures.2)

pub shape_of-shadow : goal.shape_of-shadow
shape_of-shadow c = omega (arith, c.loop-rest.invariant.3)

pub shape_of-words : goal.shape_of-words
shape_of-words c = omega (arith, c.loop-rest.invariant.4.long, c.ahead-rest.ensures.3)

pub shape_of-tickets : goal.shape_of-tickets
shape_of-tickets c = omega (arith, c.loop-rest.invariant.5.queued.tickets, c.loop-rest.invariant.6.queued.tickets)

pub shape_of-waiting : goal.shape_of-waiting
shape_of-waiting c = omega (arith, c.loop-rest.invariant.5.queued.waiting, c.loop-rest.invariant.6.queued.waiting)

pub returns : goal.returns
returns c = record { turned = stretch_done _ _ _ _ _ _ _ c.loop-rest-test.false ∙ c.loop-rest.invariant.0 ∙ leads_first _ _ _ _ _ _ _ _ _ _ _ _ _ _ _ c.ahead-rest.ensures.0; state_length = c.loop-rest.invariant.7 }
