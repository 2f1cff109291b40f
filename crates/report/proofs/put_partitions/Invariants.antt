use Rattle.std.proofs.Common.{take, ◌*◌}
use Rattle.decimal.specs.Texts.{Puts}
use Rattle.report.specs.Report.{lines_from}
use Rattle.report.proofs.put_partitions.Given as goal

abbrev pub invariant-loop-i : goal.invariant-loop-i
invariant-loop-i l = Puts l.initial.out l.at l.out l.end (lines_from 0 (take l.i l.p-items)) (87 * l.i)
