use mathlib.Core.Path.{◌∙◌}
use mathlib.Core.Bool.{◌||◌}
use lib.Dec.{eqb, leb}
use lib.ListN.{take}
use Rattle.std.proofs.Common.{rules, tests}
use Rattle.std.proofs.lemmas.List.{length-take-le}
use Rattle.std.proofs.lemmas.Iterator.{YieldsList-from_slice}
use Rattle.std.proofs.lemmas.Iterator.Search.{any_from_yields_List}
use Rattle.damage.proofs.Chains.{any_first}
use Rattle.damage.proofs.frame_barred.Goals as goal

pub returns : goal.returns
returns c =
    let a = c.args in
    any_from_yields_List (λ f. leb a.size f || eqb f 0) _ _ _ c.any.ensures.ran (YieldsList-from_slice (take a.n a.frames.now) cc) (λ x b q k. search (rules, tests))
    ∙ any_first (λ f. leb a.size f || eqb f 0) 0 a.frames.now a.n (length-take-le a.n a.frames.now c.requires)
