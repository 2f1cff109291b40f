use Rattle.std.proofs.Common.{ℕ, ◌-◌, ◌<◌, eqb, sym, refl, ap, ◌∙◌, subst, zero-le, le_trans, le_antisymm, arith}
use Rattle.hypervisor.proofs.Turn.{asked_turned, after_turn, asked_sound, Within, lent_for_lem, alone_told, still_alone, current_few, still_some, fits, fits_on, fits_words, starts, ends}
use Rattle.addresses.specs.Walk.{entries}
use Rattle.house.proofs.Turns.Stretch.{steps_add}
use Rattle.house.proofs.Turns.Kept.{sound_steps}
use Rattle.house.specs.Sound.{Sound}
use Rattle.house.specs.Turns.{world, host_steps}
use Rattle.hypervisor.proofs.run.steps.Goals as goal

pub next-requires : goal.next-requires
next-requires c = record { n_bound = c.requires.few; i_bound = c.requires.here }

pub loop-made-init : goal.loop-made-init
unfolding host_steps
loop-made-init c = (refl, c.requires, zero-le, refl, alone_told _ _ _ _ c.next.ensures)

pub offset_bounds-parts-i : goal.offset_bounds-parts-i
offset_bounds-parts-i c = record { fits = fits _ 80 ((let inside' : c.wide-i.result < 8 = current_few _ _ _ c.wide-i.ensures c.loop-made.invariant.1.here c.loop-made.invariant.1.few in inside')) (omega arith) }

pub bounds-parts-i : goal.bounds-parts-i
bounds-parts-i c = (let inside' : c.wide-i.result < 8 = current_few _ _ _ c.wide-i.ensures c.loop-made.invariant.1.here c.loop-made.invariant.1.few in inside')

pub overflow_mul-a : goal.overflow_mul-a
overflow_mul-a c = record { fits = fits _ 32 ((let inside' : c.wide-i.result < 8 = current_few _ _ _ c.wide-i.ensures c.loop-made.invariant.1.here c.loop-made.invariant.1.few in inside')) (omega arith) }

pub overflow_add-b : goal.overflow_add-b
overflow_add-b c = record { fits = fits_on _ 32 ((let inside' : c.wide-i.result < 8 = current_few _ _ _ c.wide-i.ensures c.loop-made.invariant.1.here c.loop-made.invariant.1.few in inside')) (omega arith) }

pub overflow_mul-c : goal.overflow_mul-c
overflow_mul-c c = record { fits = fits _ 256 ((let inside' : c.wide-i.result < 8 = current_few _ _ _ c.wide-i.ensures c.loop-made.invariant.1.here c.loop-made.invariant.1.few in inside')) (omega arith) }

pub overflow_add-d : goal.overflow_add-d
overflow_add-d c = record { fits = fits_on _ 256 ((let inside' : c.wide-i.result < 8 = current_few _ _ _ c.wide-i.ensures c.loop-made.invariant.1.here c.loop-made.invariant.1.few in inside')) (omega arith) }

pub overflow_mul-e : goal.overflow_mul-e
overflow_mul-e c = record { fits = fits _ entries ((let inside' : c.wide-i.result < 8 = current_few _ _ _ c.wide-i.ensures c.loop-made.invariant.1.here c.loop-made.invariant.1.few in inside')) (omega arith) }

pub overflow_add-f : goal.overflow_add-f
overflow_add-f c = record { fits = fits_on _ entries ((let inside' : c.wide-i.result < 8 = current_few _ _ _ c.wide-i.ensures c.loop-made.invariant.1.here c.loop-made.invariant.1.few in inside')) (omega arith) }

pub overflow_sub-k : goal.overflow_sub-k
overflow_sub-k c = omega (arith, c.loop-made-test.true)

pub offset_bounds-regs-a : goal.offset_bounds-regs-a
offset_bounds-regs-a c = record { fits = fits_words _ 32 ((let inside' : c.wide-i.result < 8 = current_few _ _ _ c.wide-i.ensures c.loop-made.invariant.1.here c.loop-made.invariant.1.few in inside')) (omega arith) }

pub slice_bounds-stretch-count : goal.slice_bounds-stretch-count
slice_bounds-stretch-count c = starts _ 32

pub slice_bounds-regs-start : goal.slice_bounds-regs-start
slice_bounds-regs-start c = starts _ 32

pub slice_bounds-regs-end : goal.slice_bounds-regs-end
slice_bounds-regs-end c = ends _ 32 ((let inside' : c.wide-i.result < 8 = current_few _ _ _ c.wide-i.ensures c.loop-made.invariant.1.here c.loop-made.invariant.1.few in inside')) (omega arith) _ c.loop-made.invariant.1.shaped.regs

pub offset_bounds-frames-c : goal.offset_bounds-frames-c
offset_bounds-frames-c c = record { fits = fits_words _ 256 ((let inside' : c.wide-i.result < 8 = current_few _ _ _ c.wide-i.ensures c.loop-made.invariant.1.here c.loop-made.invariant.1.few in inside')) (omega arith) }

pub slice_bounds-stretch-count-in-loop-made : goal.slice_bounds-stretch-count-in-loop-made
slice_bounds-stretch-count-in-loop-made c = starts _ 256

pub slice_bounds-stretch-start : goal.slice_bounds-stretch-start
slice_bounds-stretch-start c = starts _ 256

pub slice_bounds-stretch-end : goal.slice_bounds-stretch-end
slice_bounds-stretch-end c = ends _ 256 ((let inside' : c.wide-i.result < 8 = current_few _ _ _ c.wide-i.ensures c.loop-made.invariant.1.here c.loop-made.invariant.1.few in inside')) (omega arith) _ c.loop-made.invariant.1.shaped.frames

pub offset_bounds-shadows-e : goal.offset_bounds-shadows-e
offset_bounds-shadows-e c = record { fits = fits_words _ entries ((let inside' : c.wide-i.result < 8 = current_few _ _ _ c.wide-i.ensures c.loop-made.invariant.1.here c.loop-made.invariant.1.few in inside')) (omega arith) }

pub slice_bounds-stretch-count-in-loop-made-2 : goal.slice_bounds-stretch-count-in-loop-made-2
slice_bounds-stretch-count-in-loop-made-2 c = starts _ entries

pub slice_bounds-shadows-start : goal.slice_bounds-shadows-start
slice_bounds-shadows-start c = starts _ entries

pub slice_bounds-shadows-end : goal.slice_bounds-shadows-end
slice_bounds-shadows-end c = ends _ entries ((let inside' : c.wide-i.result < 8 = current_few _ _ _ c.wide-i.ensures c.loop-made.invariant.1.here c.loop-made.invariant.1.few in inside')) (omega arith) _ c.loop-made.invariant.1.shaped.shadows

pub stretch-s-requires : goal.stretch-s-requires
stretch-s-requires c = let q = asked_sound c.args.h _ _ _ _ _ _ _ _ _ c.wide-i.ensures c.loop-made.invariant.1 in record { regs_length = q.0; placed = q.1.0; shadowed = q.1.1.0; seated = q.1.1.1 }

pub overflow_cast-s : goal.overflow_cast-s
overflow_cast-s c = omega (arith, c.struct_known-1.given)

pub offset_bounds-parts-i-in-loop-made : goal.offset_bounds-parts-i-in-loop-made
offset_bounds-parts-i-in-loop-made c = record { fits = fits _ 80 ((let inside' : c.wide-i.result < 8 = current_few _ _ _ c.wide-i.ensures c.loop-made.invariant.1.here c.loop-made.invariant.1.few in inside')) (omega arith) }

pub bounds-parts-i-in-loop-made : goal.bounds-parts-i-in-loop-made
bounds-parts-i-in-loop-made c = (let inside' : c.wide-i.result < 8 = current_few _ _ _ c.wide-i.ensures c.loop-made.invariant.1.here c.loop-made.invariant.1.few in inside')

pub later-t-requires : goal.later-t-requires
later-t-requires c = let o = c.loop-made.invariant.1 in record {
  n_bound = o.few;
  current_bound = o.here;
  q_positive = o.turns;
  made_bound = ((let made_some' : Within (eqb c.next.result c.args.h.current) c.loop-made.left (c.args.k - c.loop-made.made) c.stretch-s.result.made = let u = (let asked_for' : Within (eqb c.next.result c.args.h.current) c.loop-made.left (c.args.k - c.loop-made.made) c.span-n.result = lent_for_lem _ _ _ _ c.span-n.ensures c.loop-made.invariant.1.left (still_some _ _ c.loop-made-test.true) in asked_for') in
      let d = asked_turned c.args.h _ _ _ _ _ _ _ _ _ _ _ _ _ _ _ _ _ _ c.wide-i.ensures c.stretch-s.ensures c.loop-made.invariant.1 u.some c.loop-made.invariant.4 u.turn in
      record { some = d.some; turn = λ e. le_trans d.most (u.turn e); most = le_trans d.most u.most } in made_some')).turn;
}

pub overflow_add-made : goal.overflow_add-made
overflow_add-made c = let d = (let made_some' : Within (eqb c.next.result c.args.h.current) c.loop-made.left (c.args.k - c.loop-made.made) c.stretch-s.result.made = let u = (let asked_for' : Within (eqb c.next.result c.args.h.current) c.loop-made.left (c.args.k - c.loop-made.made) c.span-n.result = lent_for_lem _ _ _ _ c.span-n.ensures c.loop-made.invariant.1.left (still_some _ _ c.loop-made-test.true) in asked_for') in
    let d = asked_turned c.args.h _ _ _ _ _ _ _ _ _ _ _ _ _ _ _ _ _ _ c.wide-i.ensures c.stretch-s.ensures c.loop-made.invariant.1 u.some c.loop-made.invariant.4 u.turn in
    record { some = d.some; turn = λ e. le_trans d.most (u.turn e); most = le_trans d.most u.most } in made_some') in record { fits = omega (arith, d.most, c.loop-made-test.true, c.well_formed) }

pub loop-made-smaller : goal.loop-made-smaller
loop-made-smaller c = let d = (let made_some' : Within (eqb c.next.result c.args.h.current) c.loop-made.left (c.args.k - c.loop-made.made) c.stretch-s.result.made = let u = (let asked_for' : Within (eqb c.next.result c.args.h.current) c.loop-made.left (c.args.k - c.loop-made.made) c.span-n.result = lent_for_lem _ _ _ _ c.span-n.ensures c.loop-made.invariant.1.left (still_some _ _ c.loop-made-test.true) in asked_for') in
    let d = asked_turned c.args.h _ _ _ _ _ _ _ _ _ _ _ _ _ _ _ _ _ _ c.wide-i.ensures c.stretch-s.ensures c.loop-made.invariant.1 u.some c.loop-made.invariant.4 u.turn in
    record { some = d.some; turn = λ e. le_trans d.most (u.turn e); most = le_trans d.most u.most } in made_some') in omega (arith, d.some, d.most, c.loop-made-test.true)

pub loop-made-preserved : goal.loop-made-preserved
loop-made-preserved c =
    let i = c.loop-made.invariant in
    let u = (let asked_for' : Within (eqb c.next.result c.args.h.current) c.loop-made.left (c.args.k - c.loop-made.made) c.span-n.result = lent_for_lem _ _ _ _ c.span-n.ensures c.loop-made.invariant.1.left (still_some _ _ c.loop-made-test.true) in asked_for') in
    let d = asked_turned c.args.h _ _ _ _ _ _ _ _ _ _ _ _ _ _ _ _ _ _ c.wide-i.ensures c.stretch-s.ensures i.1 u.some i.4 u.turn in
    let w = after_turn c.args.h _ _ _ _ _ _ _ _ _ _ _ _ _ _ _ _ _ _ _ _ c.wide-i.ensures d c.later-t.ensures c.wrapping_add_u64.ensures.value in
    (w ∙ ap (host_steps _) i.0 ∙ steps_add _ _ _, subst Sound (sym w) (sound_steps _ _ i.1), omega (arith, d.most, u.most, c.loop-made-test.true), omega (arith, i.3), still_alone _ _ _ _ _ _ _ _ _ c.later-t.ensures i.4)

pub shape_of-memory : goal.shape_of-memory
shape_of-memory c = omega (arith, c.loop-made.invariant.3)

pub returns : goal.returns
returns c = let i = c.loop-made.invariant in
    let e = le_antisymm i.2 c.loop-made-test.false in
    i.0 ∙ ap (λ (n : ℕ). host_steps n (world c.args.h c.args.memory.now)) e
