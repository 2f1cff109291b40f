use mathlib.Core.Path.{◌∙◌}
use mathlib.Core.Bool.{false}
use lib.ListN.{take}
use Rattle.std.proofs.Common.{rules, tests, arith}
use Rattle.std.proofs.lemmas.Iterator.{YieldsList-from_slice}
use Rattle.std.proofs.lemmas.Iterator.Search.{any_from_yields_List}
use Rattle.damage.proofs.Chains.{any_first}
use Rattle.damage.proofs.any_runs.Goals as goal

pub returns : goal.returns
returns c =
    let running = c.args.running.now in
    any_from_yields_List (λ b. b) _ _ _ c.any.ensures.ran (YieldsList-from_slice (take c.args.n running) cc) (λ x b q k. search (rules, tests))
    ∙ any_first (λ b. b) false running c.args.n (omega arith)
