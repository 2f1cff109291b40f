use native.Mathlib.Omega.{arith}
use Rattle.decimal.proofs.Texts.{puts}
use Rattle.report.proofs.Texts.{field_short}
use Rattle.report.proofs.put_word.Goals as goal

pub returns : goal.returns
returns c = puts (rw c.from.ensures at c.put_field.ensures.stands) (field_short 9 c.args.n c.args.behind (omega arith))
