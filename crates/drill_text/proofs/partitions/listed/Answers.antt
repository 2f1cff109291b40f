use Rattle.std.proofs.Common.{rules}
use Rattle.drill_text.proofs.Listed.{last_listed}
use Rattle.drill_text.proofs.partitions.listed.Goals as goal

pub returns : goal.returns
returns c = last_listed c.args.words.now c.rposition.result c.map_or.result (search rules) (search rules)
