use mathlib.Core.Path.{◌∙◌, ap}
use mathlib.Core.Bool.{not}
use lib.ListN.{length}
use Rattle.std.proofs.Common.{rules, tests}
use Rattle.std.proofs.lemmas.Iterator.{YieldsList-from_slice}
use Rattle.std.proofs.lemmas.Iterator.Search.{position_from_yields_List}
use Rattle.std.specs.Option.{unwrap_or}
use Rattle.house.specs.Lists.{between}
use Rattle.boot.proofs.Places.{first_position}
use Rattle.boot.proofs.first_wrong.Goals as goal

pub returns : goal.returns
returns c =
    let at = position_from_yields_List (λ f. not (between 1 f 256)) _ _ _ c.position.ensures.ran (YieldsList-from_slice c.args.pages.now cc) (λ x b q k. search (rules, tests)) in
    c.unwrap_or.ensures ∙ ap (λ r. unwrap_or r (length c.args.pages.now)) at ∙ first_position (λ f. not (between 1 f 256)) c.args.pages.now
