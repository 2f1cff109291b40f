use mathlib.Core.Path.{refl, ◌∙◌, sym}
use Prim.Native.Nat.{◌<◌}
use native.Mathlib.Omega.{arith}
use Rattle.std.proofs.lemmas.List.{length-take-le}
use Rattle.house.specs.Lists.{any}
use Rattle.house.proofs.Lists.Bounded.{any_more, any_yes}
use Rattle.damage.specs.Marks.{registers_at}
use Rattle.damage.proofs.Marks.{registers_here}
use Rattle.damage.proofs.registers_wrong.Goals as goal

pub loop-i-init : goal.loop-i-init
unfolding any
loop-i-init c = refl

pub returns-then-processor_wrong : goal.returns-then-processor_wrong
returns-then-processor_wrong c =
    let h = c.args.h.now in
    let l : c.loop-i.i < c.wide.result = omega (arith, length-take-le c.wide.result h.parts) in
    let here = registers_here h.parts c.wide.result c.loop-i.i l h.regs _ c.processor_wrong.ensures in
    sym (any_yes (registers_at h.parts h.regs) h.count c.loop-i.i (omega (arith, c.wide.ensures)) (sym here ∙ c.if-processor_wrong.true))

pub loop-i-preserved : goal.loop-i-preserved
loop-i-preserved c =
    let h = c.args.h.now in
    let l : c.loop-i.i < c.wide.result = omega (arith, length-take-le c.wide.result h.parts) in
    let here = registers_here h.parts c.wide.result c.loop-i.i l h.regs _ c.processor_wrong.ensures in
    any_more (registers_at h.parts h.regs) c.loop-i.i c.loop-i.invariant (sym here ∙ c.if-processor_wrong.false)
