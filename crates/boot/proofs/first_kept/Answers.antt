use mathlib.Core.Path.{◌∙◌, ap}
use lib.Dec.{eqb}
use lib.ListN.{length}
use Rattle.std.proofs.Common.{rules, tests}
use Rattle.std.proofs.lemmas.Iterator.{YieldsList-from_slice}
use Rattle.std.proofs.lemmas.Iterator.Search.{position_from_yields_List}
use Rattle.std.specs.Option.{unwrap_or}
use Rattle.boot.proofs.Places.{first_position}
use Rattle.boot.proofs.first_kept.Goals as goal

pub returns : goal.returns
returns c =
    let at = position_from_yields_List (λ f. eqb f 0) _ _ _ c.position.ensures.ran (YieldsList-from_slice c.args.frames.now cc) (λ x b q k. search (rules, tests)) in
    c.unwrap_or.ensures ∙ ap (λ r. unwrap_or r (length c.args.frames.now)) at ∙ first_position (λ f. eqb f 0) c.args.frames.now
