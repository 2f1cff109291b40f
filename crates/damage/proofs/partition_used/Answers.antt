use mathlib.Core.Path.{◌∙◌}
use Rattle.damage.proofs.Marks.{number_used, counter_used}
use Rattle.damage.proofs.partition_used.Goals as goal

pub returns-then-not_zero : goal.returns-then-not_zero
returns-then-not_zero c = c.if-not_zero.true ∙ number_used c.args.p.now _ c.not_zero.ensures c.if-not_zero.true

pub returns-else-not_zero : goal.returns-else-not_zero
returns-else-not_zero c = counter_used c.args.p.now _ c.not_zero.ensures c.if-not_zero.false
