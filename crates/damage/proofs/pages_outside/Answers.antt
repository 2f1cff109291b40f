use mathlib.Core.Path.{ap, ◌∙◌}
use mathlib.Core.Bool.{not}
use native.Mathlib.Omega.{arith}
use lib.ListN.{take}
use Rattle.std.proofs.Common.{rules, tests}
use Rattle.std.proofs.lemmas.Iterator.{YieldsList-from_slice}
use Rattle.std.proofs.lemmas.Iterator.Search.{any_from_yields_List}
use Rattle.dlx.specs.declared.partition.Partition.{Partition}
use Rattle.house.specs.Lists.{any, between}
use Rattle.house.specs.House.{no_partition}
use Rattle.damage.specs.Marks.{pages_outside}
use Rattle.damage.proofs.Chains.{any_first}
use Rattle.damage.proofs.pages_outside.Goals as goal

pub returns : goal.returns
returns c =
    let ps = c.args.h.now.parts in
    let n = c.wide.result in
    let wrong = λ (p : Partition). not (between 1 p.pages 256) in
    any_from_yields_List wrong _ _ _ c.any.ensures.ran (YieldsList-from_slice (take n ps) cc) (λ x b q k. search (rules, tests))
    ∙ any_first wrong no_partition ps n (omega arith)
    ∙ ap (any (pages_outside ps)) c.wide.ensures
