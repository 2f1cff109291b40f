use mathlib.Core.Path.{refl, ap, ◌∙◌, sym}
use Prim.Native.Nat.{◌<◌, ◌+◌}
use mathlib.Core.Bool.{true}
use native.Mathlib.Omega.{arith}
use lib.ListN.{length}
use Rattle.std.proofs.lemmas.List.{length-take-le}
use Rattle.house.specs.Lists.{any}
use Rattle.house.proofs.Lists.Bounded.{one_way, any_more, any_yes}
use Rattle.damage.specs.Marks.{owners_of, twice_in}
use Rattle.damage.proofs.Marks.{part_is, part_length, mark_part, owners_length, pages_here}
use Rattle.damage.proofs.mark_all.Goals as goal

pub loop-i-init : goal.loop-i-init
unfolding any owners_of
loop-i-init c = (refl, c.requires.1)

pub mark-requires : goal.mark-requires
mark-requires c =
    let h = c.args.h.now in
    let i = c.loop-i.i in
    let l : i < c.wide.result = omega (arith, length-take-le c.wide.result h.parts) in
    let pages = pages_here h.parts c.wide.result i l c.wide-in-loop-i.result c.wide-in-loop-i.ensures in
    let low : i < h.count = omega (arith, c.wide.ensures) in
    let most = c.requires.0.pages i low in (
      omega (arith, pages, most, part_length h.frames i (omega arith)),
      omega arith,
      ap length c.loop-i.invariant.1 ∙ owners_length h.parts h.frames i,
      λ k m. rw (part_is h.frames i) (c.requires.0.below i low k (omega (arith, pages))),
    )

pub returns-then-is_some : goal.returns-then-is_some
returns-then-is_some c =
    let h = c.args.h.now in
    let l : c.loop-i.i < c.wide.result = omega (arith, length-take-le c.wide.result h.parts) in
    let pages = pages_here h.parts c.wide.result c.loop-i.i l c.wide-in-loop-i.result c.wide-in-loop-i.ensures in
    let low : c.loop-i.i < h.count = omega (arith, c.wide.ensures) in
    let m = mark_part h.parts h.frames h.count c.loop-i.i (c.requires.0.below c.loop-i.i low) _ c.loop-i.owners c.mark.new.owners c.wide-in-loop-i.result (c.loop-i.i + 1) c.mark.result (part_is h.frames c.loop-i.i) pages refl c.loop-i.invariant.1 c.mark.ensures.twice c.mark.ensures.marks in
    (sym (any_yes (twice_in h.parts h.frames) h.count c.loop-i.i low (sym m.0 ∙ sym c.is_some.ensures ∙ c.if-is_some.true)), λ z. one_way true refl z)

pub loop-i-preserved : goal.loop-i-preserved
loop-i-preserved c =
    let h = c.args.h.now in
    let l : c.loop-i.i < c.wide.result = omega (arith, length-take-le c.wide.result h.parts) in
    let pages = pages_here h.parts c.wide.result c.loop-i.i l c.wide-in-loop-i.result c.wide-in-loop-i.ensures in
    let low : c.loop-i.i < h.count = omega (arith, c.wide.ensures) in
    let m = mark_part h.parts h.frames h.count c.loop-i.i (c.requires.0.below c.loop-i.i low) _ c.loop-i.owners c.mark.new.owners c.wide-in-loop-i.result (c.loop-i.i + 1) c.mark.result (part_is h.frames c.loop-i.i) pages refl c.loop-i.invariant.1 c.mark.ensures.twice c.mark.ensures.marks in
    let none = sym c.is_some.ensures ∙ c.if-is_some.false in
    (any_more (twice_in h.parts h.frames) c.loop-i.i c.loop-i.invariant.0 (sym m.0 ∙ none), m.1 none)
