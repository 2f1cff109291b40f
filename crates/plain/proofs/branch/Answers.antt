use Rattle.std.proofs.Common.{◌∙◌, arith}
use Rattle.plain.proofs.branch.Goals as goal

pub bounds-regs-rs1 : goal.bounds-regs-rs1
bounds-regs-rs1 c = omega (arith, c.requires, c.first-rs1.ensures)

pub returns-then-zero : goal.returns-then-zero
returns-then-zero c = c.either.ensures ∙ simp (c.if-zero.true, c.first-rs1.ensures, c.near-imm.ensures, c.wrapping_add_u32-far.ensures.value, c.wrapping_add_u32-next.ensures.value)

pub returns : goal.returns
returns c = c.either-2.ensures ∙ simp (c.if-zero.false, c.first-rs1.ensures, c.near-imm.ensures, c.wrapping_add_u32-far.ensures.value, c.wrapping_add_u32-next.ensures.value)
