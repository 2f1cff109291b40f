use Rattle.std.proofs.Common.{rules}
use Rattle.drill_text.proofs.Listed.{all_zeros}
use Rattle.drill_text.proofs.partitions.zeros.Goals as goal

pub returns : goal.returns
returns c = all_zeros c.args.words.now c.all.result (search rules)
