use Rattle.std.proofs.Common.{take, arith}
use Rattle.report.proofs.Texts.{lines_none, lines_on}
use Rattle.report.proofs.put_partitions.Goals as goal

pub loop-i-init : goal.loop-i-init
loop-i-init c = lines_none c.args.parts

pub loop-i-preserved : goal.loop-i-preserved
loop-i-preserved c = lines_on (take c.min-used.result c.args.parts) c.loop-i.i _ (omega arith) c.loop-i.invariant c.put_partition-end.ensures
