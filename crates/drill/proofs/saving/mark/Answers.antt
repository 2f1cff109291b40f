use Rattle.std.proofs.Common.{arith}
use Rattle.drill_script.proofs.Filling.{by_rule}
use Rattle.drill.specs.Saving.{marked_bytes}
use Rattle.drill.proofs.saving.mark.Goals as goal

pub returns : goal.returns
unfolding marked_bytes
returns c = by_rule _ c.loop-i.output _ (omega arith) λ k l. c.loop-i.invariant k (omega arith)
