use Rattle.decimal.proofs.Texts.{byte_in, byte_out}
use Rattle.decimal.proofs.put_byte.Goals as goal

pub returns-then-at-out : goal.returns-then-at-out
returns-then-at-out c = byte_in _ _ _ c.if-at-out.true

pub returns-else-at-out : goal.returns-else-at-out
returns-else-at-out c = byte_out _ _ _ c.if-at-out.false
