use Rattle.std.proofs.Common.{arith}
use Rattle.plain.proofs.store_word.Goals as goal

pub bounds-regs-rs1 : goal.bounds-regs-rs1
bounds-regs-rs1 c = omega (arith, c.requires.regs_length, c.first-rs1.ensures)

pub bounds-regs-rd : goal.bounds-regs-rd
bounds-regs-rd c = omega (arith, c.requires.regs_length, c.second-rd.ensures)

pub store-requires : goal.store-requires
store-requires c = record { placed = c.requires.placed; shadowed = c.requires.shadowed; storing = c.requires.storing; held_page = c.requires.held_page }

pub returns : goal.returns
returns c = simp (c.first-rs1.ensures, c.second-rd.ensures, c.near-imm.ensures) at c.store.ensures
