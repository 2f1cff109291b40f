use native.Mathlib.Omega.{arith}
use Rattle.decimal.specs.Texts.{ascii}
use Rattle.decimal.proofs.Texts.{puts, ◌then◌}
use Rattle.report.specs.Report.{line, refused_text}
use Rattle.report.proofs.put_refused.Goals as goal

pub returns : goal.returns
unfolding ascii line refused_text
returns c = puts {most = 8} c.put_text-first.ensures (omega arith) then c.put_word-second.ensures then c.put_field.ensures
