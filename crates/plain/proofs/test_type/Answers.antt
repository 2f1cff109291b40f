use Rattle.std.proofs.Common.{refl, arith}
use Rattle.plain.proofs.test_type.Goals as goal

pub returns-then-opcode-lt24 : goal.returns-then-opcode-lt24
returns-then-opcode-lt24 c = refl

pub returns-then-opcode-ge32 : goal.returns-then-opcode-ge32
returns-then-opcode-ge32 c = refl

pub bounds-regs-rs1 : goal.bounds-regs-rs1
bounds-regs-rs1 c = omega (arith, c.requires, c.first-rs1.ensures)

pub test-requires : goal.test-requires
test-requires c = omega (arith, c.if-opcode-ge32.false, c.if-opcode-lt24.false)

pub put-requires : goal.put-requires
put-requires c = omega (arith, c.requires, c.second-rd.ensures)

pub returns : goal.returns
returns c = let e = c.put.ensures in (omega (arith, c.if-opcode-lt24.false), omega (arith, c.if-opcode-ge32.false), simp (e.0, c.test.ensures, c.first-rs1.ensures, c.second-rd.ensures, c.near-imm.ensures), e.1)
