use Rattle.report.specs.Report.{line_of}
use Rattle.report.proofs.put_partition.Goals as goal

pub returns : goal.returns
unfolding line_of
returns c = c.put_line.ensures
