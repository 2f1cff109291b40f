use mathlib.Core.Path.{◌∙◌, sym}
use Rattle.std.proofs.Common.{rules, tests}
use Rattle.std.proofs.lemmas.Iterator.{YieldsList-from_slice}
use Rattle.std.proofs.lemmas.Iterator.Search.{any_from_yields_List}
use Rattle.damage.specs.Marks.{entry_marked}
use Rattle.damage.proofs.Chains.{any_list}
use Rattle.damage.proofs.Marks.{empty_list}
use Rattle.damage.proofs.group_wrong.Goals as goal

pub returns-then-not_zero : goal.returns-then-not_zero
returns-then-not_zero c =
    any_from_yields_List (entry_marked c.args.owners.now c.args.tag) _ _ _ c.any.ensures.ran (YieldsList-from_slice c.args.group.now cc) (λ x b q k. search (rules, tests))
    ∙ any_list (entry_marked c.args.owners.now c.args.tag) 0 c.args.group.now

pub returns-else-not_zero : goal.returns-else-not_zero
returns-else-not_zero c =
    c.if-not_zero.false ∙ sym (empty_list c.args.owners.now c.args.tag c.args.group.now (sym c.not_zero.ensures ∙ c.if-not_zero.false))
