use native.Mathlib.Omega.{arith}
use Rattle.decimal.specs.Texts.{ascii}
use Rattle.decimal.proofs.Texts.{puts, ◌then◌}
use Rattle.audit.specs.Printed.{first_line}
use Rattle.audit.proofs.put_first.Goals as goal

pub returns : goal.returns
unfolding ascii first_line
returns c = puts {most = 29} c.put_text-first.ensures (omega arith) then c.put_word-second.ensures then puts {most = 6} c.put_text-third.ensures (omega arith) then c.put_word.ensures
