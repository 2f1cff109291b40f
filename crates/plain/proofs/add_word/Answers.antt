use Rattle.std.proofs.Common.{arith}
use Rattle.plain.proofs.add_word.Goals as goal

pub bounds-regs-rs1 : goal.bounds-regs-rs1
bounds-regs-rs1 c = omega (arith, c.requires, c.first-rs1.ensures)

pub add-requires : goal.add-requires
add-requires c = omega (arith, c.requires, c.second-rd.ensures)

pub returns : goal.returns
returns c = simp (c.first-rs1.ensures, c.second-rd.ensures, c.near-imm.ensures) at c.add.ensures
