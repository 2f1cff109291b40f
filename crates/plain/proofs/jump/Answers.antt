use Rattle.std.proofs.Common.{ℕ, get_or, ap, ◌∙◌, arith}
use Rattle.plain.proofs.jump.Goals as goal

pub bounds-regs-rs1 : goal.bounds-regs-rs1
bounds-regs-rs1 c = omega (arith, c.requires, c.first-rs1.ensures)

pub returns : goal.returns
returns c = c.wrapping_sub_u32.ensures.value ∙ ap (λ (j : ℕ). get_or c.args.regs.now j 0) c.first-rs1.ensures
