use Rattle.dlx.specs.Execute.{value_of}
use Rattle.std.proofs.Common.{arith}
use Rattle.plain.proofs.or_word.Goals as goal

pub bounds-regs-rs1 : goal.bounds-regs-rs1
bounds-regs-rs1 c = omega (arith, c.requires, c.first-rs1.ensures)

pub put-requires : goal.put-requires
put-requires c = omega (arith, c.requires, c.second-rd.ensures)

pub returns : goal.returns
unfolding value_of
returns c = simp (c.first-rs1.ensures, c.second-rd.ensures, c.near-imm.ensures) at c.put.ensures
