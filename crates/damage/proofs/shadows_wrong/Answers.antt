use mathlib.Core.Path.{refl, ◌∙◌, sym}
use native.Mathlib.Omega.{arith}
use Rattle.house.specs.Lists.{any}
use Rattle.house.proofs.Lists.Bounded.{any_more, any_yes}
use Rattle.damage.specs.Marks.{shadow_marked}
use Rattle.damage.proofs.Marks.{shadow_here}
use Rattle.damage.proofs.shadows_wrong.Goals as goal

pub loop-i-init : goal.loop-i-init
unfolding any
loop-i-init c = refl

pub returns-then-shadow_wrong : goal.returns-then-shadow_wrong
returns-then-shadow_wrong c =
    let h = c.args.h.now in
    let here = shadow_here c.args.owners.now c.loop-i.i _ h.shadows _ refl c.shadow_wrong.ensures in
    sym (any_yes (shadow_marked c.args.owners.now h.shadows) h.count c.loop-i.i (omega (arith, c.wide-i-end.ensures)) (sym here ∙ c.if-shadow_wrong.true))

pub loop-i-preserved : goal.loop-i-preserved
loop-i-preserved c =
    let h = c.args.h.now in
    let here = shadow_here c.args.owners.now c.loop-i.i _ h.shadows _ refl c.shadow_wrong.ensures in
    any_more (shadow_marked c.args.owners.now h.shadows) c.loop-i.i c.loop-i.invariant (sym here ∙ c.if-shadow_wrong.false)
