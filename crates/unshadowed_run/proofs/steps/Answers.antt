use Rattle.std.proofs.Common.{ℕ, ◌-◌, ◌<◌, ◌≤◌, sym, refl, ap, ◌∙◌, subst, zero-le, le_trans, le_antisymm, arith}
use Rattle.unshadowed_run.proofs.Turn.{asked_turned, after_turn, asked_sound, joined}
use Rattle.unshadowed_run.specs.Steady.{Steady}
use Rattle.unshadowed_run.proofs.Stretch.{empty_steady}
use Rattle.hypervisor.proofs.Turn.{limited, current_few, still_some, fits, fits_on, fits_words, starts, ends}
use Rattle.unshadowed.specs.Turns.{unshadowed_steps, all_empty}
use Rattle.house.specs.Turns.{world}
use Rattle.unshadowed_run.proofs.steps.Goals as goal

-- src/lib.rt:42:5
pub loop-made-init : goal.loop-made-init
unfolding unshadowed_steps
loop-made-init c = (refl, empty_steady _ c.requires, zero-le, refl)

pub offset_bounds-parts-i : goal.offset_bounds-parts-i
offset_bounds-parts-i c = record { fits = fits _ 80 ((let inside' : c.wide-i.result < 8 = let o = c.loop-made.invariant.1.sound in current_few _ _ _ c.wide-i.ensures o.here o.few in inside')) (omega arith) }

-- src/lib.rt:44:21
pub bounds-parts-i : goal.bounds-parts-i
bounds-parts-i c = (let inside' : c.wide-i.result < 8 = let o = c.loop-made.invariant.1.sound in current_few _ _ _ c.wide-i.ensures o.here o.few in inside')

-- src/lib.rt:45:17
pub overflow_mul-a : goal.overflow_mul-a
overflow_mul-a c = record { fits = fits _ 32 ((let inside' : c.wide-i.result < 8 = let o = c.loop-made.invariant.1.sound in current_few _ _ _ c.wide-i.ensures o.here o.few in inside')) (omega arith) }

-- src/lib.rt:46:17
pub overflow_add-b : goal.overflow_add-b
overflow_add-b c = record { fits = fits_on _ 32 ((let inside' : c.wide-i.result < 8 = let o = c.loop-made.invariant.1.sound in current_few _ _ _ c.wide-i.ensures o.here o.few in inside')) (omega arith) }

-- src/lib.rt:47:17
pub overflow_mul-c : goal.overflow_mul-c
overflow_mul-c c = record { fits = fits _ 256 ((let inside' : c.wide-i.result < 8 = let o = c.loop-made.invariant.1.sound in current_few _ _ _ c.wide-i.ensures o.here o.few in inside')) (omega arith) }

-- src/lib.rt:48:17
pub overflow_add-d : goal.overflow_add-d
overflow_add-d c = record { fits = fits_on _ 256 ((let inside' : c.wide-i.result < 8 = let o = c.loop-made.invariant.1.sound in current_few _ _ _ c.wide-i.ensures o.here o.few in inside')) (omega arith) }

-- src/lib.rt:49:29
pub overflow_sub-k : goal.overflow_sub-k
overflow_sub-k c = omega (arith, c.loop-made-test.true)

-- src/lib.rt:56:13
pub offset_bounds-regs-a : goal.offset_bounds-regs-a
offset_bounds-regs-a c = record { fits = fits_words _ 32 ((let inside' : c.wide-i.result < 8 = let o = c.loop-made.invariant.1.sound in current_few _ _ _ c.wide-i.ensures o.here o.few in inside')) (omega arith) }

-- src/lib.rt:56:13
pub slice_bounds-stretch-count : goal.slice_bounds-stretch-count
slice_bounds-stretch-count c = starts _ 32

-- src/lib.rt:56:13
pub slice_bounds-regs-start : goal.slice_bounds-regs-start
slice_bounds-regs-start c = starts _ 32

-- src/lib.rt:56:13
pub slice_bounds-regs-end : goal.slice_bounds-regs-end
slice_bounds-regs-end c = ends _ 32 ((let inside' : c.wide-i.result < 8 = let o = c.loop-made.invariant.1.sound in current_few _ _ _ c.wide-i.ensures o.here o.few in inside')) (omega arith) _ c.loop-made.invariant.1.sound.shaped.regs

-- src/lib.rt:57:13
pub offset_bounds-frames-c : goal.offset_bounds-frames-c
offset_bounds-frames-c c = record { fits = fits_words _ 256 ((let inside' : c.wide-i.result < 8 = let o = c.loop-made.invariant.1.sound in current_few _ _ _ c.wide-i.ensures o.here o.few in inside')) (omega arith) }

-- src/lib.rt:57:13
pub slice_bounds-stretch-count-in-loop-made : goal.slice_bounds-stretch-count-in-loop-made
slice_bounds-stretch-count-in-loop-made c = starts _ 256

-- src/lib.rt:57:13
pub slice_bounds-stretch-start : goal.slice_bounds-stretch-start
slice_bounds-stretch-start c = starts _ 256

-- src/lib.rt:57:13
pub slice_bounds-stretch-end : goal.slice_bounds-stretch-end
slice_bounds-stretch-end c = ends _ 256 ((let inside' : c.wide-i.result < 8 = let o = c.loop-made.invariant.1.sound in current_few _ _ _ c.wide-i.ensures o.here o.few in inside')) (omega arith) _ c.loop-made.invariant.1.sound.shaped.frames

-- src/lib.rt:51:13
pub stretch-s-requires : goal.stretch-s-requires
stretch-s-requires c = let q = asked_sound c.args.h _ _ _ _ c.args.h.shadows _ _ _ _ c.wide-i.ensures c.loop-made.invariant.1 in record { regs_length = q.0; placed = q.1.0; seated = q.1.1 }

-- src/lib.rt:73:59
pub overflow_cast-s : goal.overflow_cast-s
overflow_cast-s c = omega (arith, c.struct_known-1.given)

-- src/lib.rt:74:9
pub offset_bounds-parts-i-in-loop-made : goal.offset_bounds-parts-i-in-loop-made
offset_bounds-parts-i-in-loop-made c = record { fits = fits _ 80 ((let inside' : c.wide-i.result < 8 = let o = c.loop-made.invariant.1.sound in current_few _ _ _ c.wide-i.ensures o.here o.few in inside')) (omega arith) }

-- src/lib.rt:74:9
pub bounds-parts-i-in-loop-made : goal.bounds-parts-i-in-loop-made
bounds-parts-i-in-loop-made c = (let inside' : c.wide-i.result < 8 = let o = c.loop-made.invariant.1.sound in current_few _ _ _ c.wide-i.ensures o.here o.few in inside')

-- src/lib.rt:75:13
pub turn-t-requires : goal.turn-t-requires
turn-t-requires c = record {
  n_bound = c.loop-made.invariant.1.sound.few;
  current_bound = c.loop-made.invariant.1.sound.here;
  made_bound = ((let made_some' : (0 < c.stretch-s.result.made) × (c.stretch-s.result.made ≤ c.loop-made.left) × (c.stretch-s.result.made ≤ c.args.k - c.loop-made.made) = let u = limited _ _ _ c.limit-n.ensures c.loop-made.invariant.1.sound.left (still_some _ _ c.loop-made-test.true) in
      let d = asked_turned c.args.h _ _ _ _ c.args.h.shadows _ _ _ _ _ _ _ _ _ _ _ c.wide-i.ensures c.stretch-s.ensures c.loop-made.invariant.1 u.0 u.1 in
      (d.some, le_trans d.most u.1, le_trans d.most u.2) in made_some')).1;
}

-- src/lib.rt:78:9
pub overflow_add-made : goal.overflow_add-made
overflow_add-made c = let d = (let made_some' : (0 < c.stretch-s.result.made) × (c.stretch-s.result.made ≤ c.loop-made.left) × (c.stretch-s.result.made ≤ c.args.k - c.loop-made.made) = let u = limited _ _ _ c.limit-n.ensures c.loop-made.invariant.1.sound.left (still_some _ _ c.loop-made-test.true) in
    let d = asked_turned c.args.h _ _ _ _ c.args.h.shadows _ _ _ _ _ _ _ _ _ _ _ c.wide-i.ensures c.stretch-s.ensures c.loop-made.invariant.1 u.0 u.1 in
    (d.some, le_trans d.most u.1, le_trans d.most u.2) in made_some') in record { fits = omega (arith, d.2, c.loop-made-test.true, c.well_formed) }

-- src/lib.rt:42:5
pub loop-made-smaller : goal.loop-made-smaller
loop-made-smaller c = let d = (let made_some' : (0 < c.stretch-s.result.made) × (c.stretch-s.result.made ≤ c.loop-made.left) × (c.stretch-s.result.made ≤ c.args.k - c.loop-made.made) = let u = limited _ _ _ c.limit-n.ensures c.loop-made.invariant.1.sound.left (still_some _ _ c.loop-made-test.true) in
    let d = asked_turned c.args.h _ _ _ _ c.args.h.shadows _ _ _ _ _ _ _ _ _ _ _ c.wide-i.ensures c.stretch-s.ensures c.loop-made.invariant.1 u.0 u.1 in
    (d.some, le_trans d.most u.1, le_trans d.most u.2) in made_some') in omega (arith, d.0, d.2, c.loop-made-test.true)

-- src/lib.rt:42:5
pub loop-made-preserved : goal.loop-made-preserved
loop-made-preserved c = let i = c.loop-made.invariant in
    let h = c.args.h in
    let u = limited _ _ _ c.limit-n.ensures i.1.sound.left (still_some _ _ c.loop-made-test.true) in
    let d = asked_turned h _ _ _ _ h.shadows _ _ _ _ _ _ _ _ _ _ _ c.wide-i.ensures c.stretch-s.ensures i.1 u.0 u.1 in
    let w = after_turn h _ _ _ _ h.shadows _ _ _ _ _ _ _ _ _ c.limit-n.result _ _ _ c.wide-i.ensures c.turn-t.ensures c.wrapping_add_u64.ensures.value in
    (w ∙ d.steps ∙ joined (world h c.args.memory.now) _ c.loop-made.made _ i.0, subst Steady (sym w) d.steady, omega (arith, d.most, u.2, c.loop-made-test.true), omega (arith, i.3))

-- src/lib.rt:27:1
pub shape_of-memory : goal.shape_of-memory
shape_of-memory c = omega (arith, c.loop-made.invariant.3)

-- src/lib.rt:27:1
pub returns : goal.returns
returns c = let i = c.loop-made.invariant in
    let e = le_antisymm i.2 c.loop-made-test.false in
    i.0 ∙ ap (λ (n : ℕ). all_empty (unshadowed_steps n (world c.args.h c.args.memory.now))) e
