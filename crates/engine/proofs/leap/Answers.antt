use Rattle.engine.proofs.Parts.{room_is}
use Rattle.engine.proofs.Leads.{numbered_as, roomy_at, goes_at, found_at, list_long, calm_at, some_left, leads_then, leads_part, leads_arrived}
use Rattle.std.proofs.Common.{◌∙◌, arith}
use Rattle.engine.proofs.leap.Goals as goal

pub processor_of-p-requires : goal.processor_of-p-requires
processor_of-p-requires c = c.requires.s_length

pub table_of-t-requires : goal.table_of-t-requires
table_of-t-requires c = c.requires.s_length

pub timer_of-requires : goal.timer_of-requires
timer_of-requires c = c.requires.s_length

pub plain-q-requires : goal.plain-q-requires
plain-q-requires c = record { regs_length = c.requires.regs_length; placed = c.requires.placed; shadowed = c.requires.shadowed; numbered = numbered_as _ _ _ c.requires.s_length c.processor_of-p.ensures c.table_of-t.ensures }

pub overflow_sub-left : goal.overflow_sub-left
overflow_sub-left c = omega (arith, c.plain-q.ensures.0.0)

pub overflow_sub-left-2 : goal.overflow_sub-left-2
overflow_sub-left-2 c = let r = room_is _ _ _ c.requires.n_positive c.room-most.ensures in omega (arith, r.1)

pub arrive-requires : goal.arrive-requires
arrive-requires c = let r = roomy_at _ _ _ _ c.timer_of.ensures (room_is _ _ _ c.requires.n_positive c.room-most.ensures) in record { s_length = c.requires.s_length; fits = (r.0, r.2) }

pub shape_of-s-then-rest-eq0 : goal.shape_of-s-then-rest-eq0
shape_of-s-then-rest-eq0 c = omega (arith, c.arrive.ensures.long, c.requires.s_length)

pub returns-then-rest-eq0 : goal.returns-then-rest-eq0
returns-then-rest-eq0 c = let e = c.plain-q.ensures in let r = roomy_at _ _ _ _ c.timer_of.ensures (room_is _ _ _ c.requires.n_positive c.room-most.ensures) in let g = goes_at _ _ _ _ _ c.processor_of-p.result c.args.s.now _ _ _ _ _ _ _ c.processor_of-p.ensures c.table_of-t.ensures e.0 in ((leads_arrived _ _ _ _ _ _ _ _ _ _ _ _ _ _ r c.if-rest-eq0.true g c.arrive.ensures, omega (arith, r.0, r.1, c.if-rest-eq0.true)), c.arrive.ensures.long, e.1, e.2)

pub overflow_sub-most : goal.overflow_sub-most
overflow_sub-most c = omega (arith, c.plain-q.ensures.0.0)

pub advance-requires : goal.advance-requires
advance-requires c = c.requires.s_length

pub returns-then-rest-eq1 : goal.returns-then-rest-eq1
returns-then-rest-eq1 c = let e = c.plain-q.ensures in let r = roomy_at _ _ _ _ c.timer_of.ensures (room_is _ _ _ c.requires.n_positive c.room-most.ensures) in let g = goes_at _ _ _ _ _ c.processor_of-p.result c.args.s.now _ _ _ _ _ _ _ c.processor_of-p.ensures c.table_of-t.ensures e.0 in (leads_part _ _ _ _ _ _ _ _ _ _ _ _ _ _ r (some_left c.if-rest-eq0.false) g c.advance.ensures, list_long _ _ _ _ c.advance.ensures, e.1, e.2)

pub event-requires : goal.event-requires
event-requires c = let e = c.plain-q.ensures in let r = roomy_at _ _ _ _ c.timer_of.ensures (room_is _ _ _ c.requires.n_positive c.room-most.ensures) in let g = goes_at _ _ _ _ _ c.processor_of-p.result c.args.s.now _ _ _ _ _ _ _ c.processor_of-p.ensures c.table_of-t.ensures e.0 in record { s_length = list_long _ _ _ _ c.advance.ensures; no_zero_reached = calm_at _ _ _ _ _ _ c.advance.ensures r.2 e.0.0 c.if-rest-eq0.false c.if-rest-eq1.false }

pub returns-then-not-event : goal.returns-then-not-event
returns-then-not-event c = let e = c.plain-q.ensures in let r = roomy_at _ _ _ _ c.timer_of.ensures (room_is _ _ _ c.requires.n_positive c.room-most.ensures) in let g = goes_at _ _ _ _ _ c.processor_of-p.result c.args.s.now _ _ _ _ _ _ _ c.processor_of-p.ensures c.table_of-t.ensures e.0 in let f = c.event.ensures.1 c.if-not-event.true ∙ c.advance.ensures in (leads_part _ _ _ _ _ _ _ _ _ _ _ _ _ _ r (some_left c.if-rest-eq0.false) g f, list_long _ _ _ _ f, e.1, e.2)

pub overflow_sub-result : goal.overflow_sub-result
overflow_sub-result c = let e = c.plain-q.ensures in let r = roomy_at _ _ _ _ c.timer_of.ensures (room_is _ _ _ c.requires.n_positive c.room-most.ensures) in let g = goes_at _ _ _ _ _ c.processor_of-p.result c.args.s.now _ _ _ _ _ _ _ c.processor_of-p.ensures c.table_of-t.ensures e.0 in omega (arith, r.1, e.0.0, some_left c.if-rest-eq0.false)

pub returns : goal.returns
returns c = let e = c.plain-q.ensures in let r = roomy_at _ _ _ _ c.timer_of.ensures (room_is _ _ _ c.requires.n_positive c.room-most.ensures) in let g = goes_at _ _ _ _ _ c.processor_of-p.result c.args.s.now _ _ _ _ _ _ _ c.processor_of-p.ensures c.table_of-t.ensures e.0 in let h = c.event.ensures.0 c.if-not-event.false in let f = c.advance.ensures in ((leads_then _ _ _ _ _ _ _ _ _ _ _ _ _ _ _ (leads_part _ _ _ _ _ _ _ _ _ _ _ _ _ _ r (some_left c.if-rest-eq0.false) g f) (h.leads _ _ _ _ _ _ (found_at _ _ _ c.processor_of-p.result _ _ _ _ _ _ _ _ _ c.processor_of-p.ensures c.table_of-t.ensures f e.3) (omega (arith, r.1, e.0.0, some_left c.if-rest-eq0.false))), omega (arith, r.0, r.1, some_left c.if-rest-eq0.false, e.0.0)), h.long, e.1, e.2)
