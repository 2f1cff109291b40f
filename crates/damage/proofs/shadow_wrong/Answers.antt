use mathlib.Core.Path.{refl, ◌∙◌, sym}
use native.Mathlib.Omega.{arith}
use Rattle.addresses.specs.Walk.{entries}
use Rattle.house.specs.Lists.{any}
use Rattle.damage.proofs.Marks.{group_is, group_found, group_more}
use Rattle.damage.proofs.shadow_wrong.Goals as goal

pub loop-base-init : goal.loop-base-init
unfolding any
loop-base-init c = (refl, omega arith, refl)

pub returns-then-group_wrong : goal.returns-then-group_wrong
returns-then-group_wrong c =
    let a = c.args in
    let i = c.loop-base.invariant in
    let base = c.loop-base.base in
    let here = group_is a.owners.now a.tag a.shadow.now base _ _ (omega (arith, c.requires.0, i.2)) refl c.group_wrong.ensures in
    sym (group_found a.owners.now a.tag a.shadow.now entries base (omega (arith, i.2)) (sym here ∙ c.if-group_wrong.true))

pub loop-base-preserved : goal.loop-base-preserved
loop-base-preserved c =
    let a = c.args in
    let i = c.loop-base.invariant in
    let base = c.loop-base.base in
    let here = group_is a.owners.now a.tag a.shadow.now base _ _ (omega (arith, c.requires.0, i.2)) refl c.group_wrong.ensures in
    (group_more a.owners.now a.tag a.shadow.now base i.0 (sym here ∙ c.if-group_wrong.false), omega (arith, i.2), omega (arith, i.2))
