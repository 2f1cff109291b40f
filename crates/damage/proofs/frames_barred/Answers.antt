use mathlib.Core.Path.{refl, ◌∙◌, sym}
use Prim.Native.Nat.{◌<◌, ◌/◌}
use native.Mathlib.Omega.{arith}
use Rattle.std.proofs.lemmas.List.{length-take-le}
use Rattle.house.specs.Lists.{any}
use Rattle.house.proofs.Lists.Bounded.{any_more, any_yes}
use Rattle.damage.specs.Marks.{frames_barred}
use Rattle.damage.proofs.Marks.{part_length, pages_here, pages_within, barred_here}
use Rattle.damage.proofs.frames_barred.Goals as goal

pub loop-i-init : goal.loop-i-init
unfolding any
loop-i-init c = refl

pub frame_barred-requires : goal.frame_barred-requires
frame_barred-requires c =
    let h = c.args.h.now in
    let i = c.loop-i.i in
    let l : i < c.wide.result = omega (arith, length-take-le c.wide.result h.parts) in
    let pages = pages_here h.parts c.wide.result i l c.wide-in-loop-i.result c.wide-in-loop-i.ensures in
    omega (arith, pages, pages_within h.parts h.count c.requires.1 i (omega (arith, c.wide.ensures)), part_length h.frames i (omega arith))

pub returns-then-frame_barred : goal.returns-then-frame_barred
returns-then-frame_barred c =
    let h = c.args.h.now in
    let l : c.loop-i.i < c.wide.result = omega (arith, length-take-le c.wide.result h.parts) in
    let here = barred_here h.parts c.wide.result c.loop-i.i l h.frames (h.words / 1024) _ _ c.wide-in-loop-i.ensures c.frame_barred.ensures in
    sym (any_yes (frames_barred h.parts h.frames (h.words / 1024)) h.count c.loop-i.i (omega (arith, c.wide.ensures)) (sym here ∙ c.if-frame_barred.true))

pub loop-i-preserved : goal.loop-i-preserved
loop-i-preserved c =
    let h = c.args.h.now in
    let l : c.loop-i.i < c.wide.result = omega (arith, length-take-le c.wide.result h.parts) in
    let here = barred_here h.parts c.wide.result c.loop-i.i l h.frames (h.words / 1024) _ _ c.wide-in-loop-i.ensures c.frame_barred.ensures in
    any_more (frames_barred h.parts h.frames (h.words / 1024)) c.loop-i.i c.loop-i.invariant (sym here ∙ c.if-frame_barred.false)
