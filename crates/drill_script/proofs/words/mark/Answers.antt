use Rattle.std.proofs.Common.{arith}
use Rattle.drill_script.proofs.Filling.{by_rule}
use Rattle.drill_script.proofs.words.mark.Goals as goal

pub returns : goal.returns
returns c = by_rule _ c.loop-i.words _ (omega arith) λ k l. c.loop-i.invariant k (omega arith)
