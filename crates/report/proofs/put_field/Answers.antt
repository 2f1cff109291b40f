use native.Mathlib.Omega.{arith}
use Rattle.decimal.proofs.Texts.{puts}
use Rattle.report.proofs.Texts.{field_short, field_is}
use Rattle.report.proofs.put_field.Goals as goal

pub returns : goal.returns
returns c = puts (field_is _ c.args.n c.args.behind c.put_decimal-end.ensures c.put_byte.ensures) (field_short 19 c.args.n c.args.behind (omega arith))
