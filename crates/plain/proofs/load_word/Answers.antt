use Rattle.std.proofs.Common.{arith}
use Rattle.plain.proofs.load_word.Goals as goal

pub bounds-regs-rs1 : goal.bounds-regs-rs1
bounds-regs-rs1 c = omega (arith, c.requires.regs_length, c.first-rs1.ensures)

pub load-requires : goal.load-requires
load-requires c = record { regs_length = c.requires.regs_length; placed = c.requires.placed; shadowed = c.requires.shadowed; loading = c.requires.loading; rd_bound = omega (arith, c.second-rd.ensures) }

pub returns : goal.returns
returns c = simp (c.first-rs1.ensures, c.second-rd.ensures, c.near-imm.ensures) at c.load.ensures
