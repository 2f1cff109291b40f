use native.Mathlib.Omega.{arith}
use Rattle.decimal.specs.Texts.{ascii}
use Rattle.decimal.proofs.Texts.{puts, ◌then◌}
use Rattle.report.specs.Report.{header, report_of}
use Rattle.report.proofs.Texts.{whole_is}
use Rattle.report.proofs.report.Goals as goal

pub returns-clause-value : goal.returns-clause-value
unfolding report_of header ascii
returns-clause-value c = (whole_is (puts {most = 40} c.put_text-at.ensures (omega arith) then c.put_partitions.ensures) (omega (arith, c.told-out))).0

pub returns-clause-counts : goal.returns-clause-counts
unfolding report_of header ascii
returns-clause-counts c = (whole_is (puts {most = 40} c.put_text-at.ensures (omega arith) then c.put_partitions.ensures) (omega (arith, c.told-out))).1
