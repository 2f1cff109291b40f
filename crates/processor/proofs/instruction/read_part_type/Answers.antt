use Rattle.std.proofs.Common.{refl, arith}
use Rattle.processor.proofs.Opcodes.{part_below, part_32, part_34, part_36, part_38, part_40, part_above}
use Rattle.processor.proofs.instruction.read_part_type.Goals as goal

pub extend-imm-requires : goal.extend-imm-requires
extend-imm-requires c = (15, omega arith, refl)

pub returns-in-40 : goal.returns-in-40
returns-in-40 c = simp (c.extend-imm.ensures, c.wide-rd.ensures, c.wide-rs1.ensures) (part_40 c.args.w c.in-40.if-opcode-lt40-own.false c.in-40.if-opcode-lt42-own.true)

pub returns-in-32 : goal.returns-in-32
returns-in-32 c = simp (c.extend-imm.ensures, c.wide-rd.ensures, c.wide-rs1.ensures) (part_32 c.args.w c.in-32.if-opcode-lt32-own.false c.in-32.if-opcode-lt34-own.true)

pub returns-in-32-2 : goal.returns-in-32-2
returns-in-32-2 c = simp (c.extend-imm.ensures, c.wide-rd.ensures, c.wide-rs1.ensures) (part_36 c.args.w c.in-32.if-opcode-lt36-own.false c.in-32.if-opcode-lt38-own.true)

pub returns-in_default : goal.returns-in_default
returns-in_default c = part_below c.args.w c.in_default.if-opcode-lt32-own.true

pub returns-in_default-2 : goal.returns-in_default-2
returns-in_default-2 c = part_34 c.args.w c.in_default.if-opcode-lt34-own.false c.in_default.if-opcode-lt36-own.true

pub returns-in_default-3 : goal.returns-in_default-3
returns-in_default-3 c = part_38 c.args.w c.in_default.if-opcode-lt38-own.false c.in_default.if-opcode-lt40-own.true

pub returns-in_default-4 : goal.returns-in_default-4
returns-in_default-4 c = part_above c.args.w c.in_default.if-opcode-lt42-own.false
