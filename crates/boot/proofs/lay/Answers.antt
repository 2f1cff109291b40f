use mathlib.Core.Path.{refl, ◌∙◌, ap}
use Prim.Native.Nat.{◌*◌}
use native.Mathlib.Omega.{arith}
use lib.ListN.{take, drop}
use Rattle.house.specs.Boot.{offset, laid}
use Rattle.house.proofs.Boot.Offsets.{offset_in, offset_more, laid_after}
use Rattle.boot.proofs.Places.{filled_none, laid_more, filled_whole}
use Rattle.boot.proofs.lay.Goals as goal

pub loop-i-init : goal.loop-i-init
unfolding offset
loop-i-init c = (filled_none (laid c.args.pages.now c.args.frames.now) 0 2048, refl)

pub overflow_add-from : goal.overflow_add-from
overflow_add-from c = omega (arith, c.wide-n.ensures, c.requires.long, offset_in c.args.pages.now c.loop-i.i)

pub offset_bounds-frames-from : goal.offset_bounds-frames-from
offset_bounds-frames-from c = omega (arith, c.wide-n.ensures, c.requires.long, offset_in c.args.pages.now c.loop-i.i)

pub slice_bounds-copy_from_slice-end : goal.slice_bounds-copy_from_slice-end
slice_bounds-copy_from_slice-end c = omega (arith, c.wide-n.ensures, c.requires.long, offset_in c.args.pages.now c.loop-i.i)

pub loop-i-preserved : goal.loop-i-preserved
loop-i-preserved c =
    let l = c.loop-i in (
      laid_more c.args.pages.now c.args.frames.now l.i l.from c.wide-n.result _ l.places c.copy_from_slice.new.self c.requires (omega arith) l.invariant.1 c.wide-n.ensures (omega arith) l.invariant.0
          (c.copy_from_slice.ensures.after ∙ ap (λ m. take m (drop l.from c.args.frames.now)) (omega arith)),
      omega (arith, c.wide-n.ensures, offset_more c.args.pages.now l.i),
    )

pub returns : goal.returns
returns c = c.loop-i.invariant.0 ∙ filled_whole (laid c.args.pages.now c.args.frames.now) 0 2048 (c.loop-i.i * 256) (λ j a. laid_after c.args.pages.now c.args.frames.now j (omega arith))
