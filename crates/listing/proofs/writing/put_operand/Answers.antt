use Rattle.decimal.specs.Texts.{text}
use Rattle.listing.proofs.Pieces.{operand_absent, operand_number, operand_register, operand_signed, field_under}
use Rattle.listing.proofs.writing.put_operand.Goals as goal

pub returns-in-Absent : goal.returns-in-Absent
returns-in-Absent c = operand_absent _ _ c.args.w c.operand-o.ensures.value c.field-v.ensures (text c.args.out.now c.args.at) c.in-Absent.is

pub returns-in-Number : goal.returns-in-Number
returns-in-Number c = operand_number _ _ c.args.w c.operand-o.ensures.value c.field-v.ensures (text c.args.out.now c.args.at) c.in-Number.is c.put_byte-first.ensures c.put_decimal.ensures

pub returns-in-Register : goal.returns-in-Register
returns-in-Register c = operand_register _ _ c.args.w c.operand-o.ensures.value c.field-v.ensures (text c.args.out.now c.args.at) c.in-Register.is c.put_byte-first-in-Register.ensures c.put_byte-second.ensures c.put_decimal-in-Register.ensures

pub put_signed-requires : goal.put_signed-requires
put_signed-requires c = field_under _ _ c.args.w c.operand-o.ensures.value _ c.field-v.ensures

pub returns-in-Signed : goal.returns-in-Signed
returns-in-Signed c = operand_signed _ _ c.args.w c.operand-o.ensures.value c.field-v.ensures (text c.args.out.now c.args.at) c.in-Signed.is c.put_byte-first-in-Signed.ensures c.put_signed.ensures
