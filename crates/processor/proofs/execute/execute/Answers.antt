use Rattle.dlx.specs.Execute.{effect_of}
use Rattle.std.proofs.Common.{arith}
use Rattle.processor.proofs.execute.execute.Goals as goal

pub offset_bounds-regs-rs1 : goal.offset_bounds-regs-rs1
offset_bounds-regs-rs1 c = let n = rw c.in-LoadBy.is at c.requires.formed in omega (arith, c.requires.regs_length)

pub bounds-regs-rs1 : goal.bounds-regs-rs1
bounds-regs-rs1 c = let n = rw c.in-LoadBy.is at c.requires.formed in omega (arith, c.requires.regs_length)

pub load-requires : goal.load-requires
load-requires c = let n = rw c.in-LoadBy.is at c.requires.formed in n.0

pub offset_bounds-regs-rd : goal.offset_bounds-regs-rd
offset_bounds-regs-rd c = let n = rw c.in-StoreBy.is at c.requires.formed in omega (arith, c.requires.regs_length)

pub bounds-regs-rd : goal.bounds-regs-rd
bounds-regs-rd c = let n = rw c.in-StoreBy.is at c.requires.formed in omega (arith, c.requires.regs_length)

pub offset_bounds-regs-rs1-in-StoreBy : goal.offset_bounds-regs-rs1-in-StoreBy
offset_bounds-regs-rs1-in-StoreBy c = let n = rw c.in-StoreBy.is at c.requires.formed in omega (arith, c.requires.regs_length)

pub bounds-regs-rs1-in-StoreBy : goal.bounds-regs-rs1-in-StoreBy
bounds-regs-rs1-in-StoreBy c = let n = rw c.in-StoreBy.is at c.requires.formed in omega (arith, c.requires.regs_length)

pub store-requires : goal.store-requires
store-requires c = let n = rw c.in-StoreBy.is at c.requires.formed in n.0

pub offset_bounds-regs-rs1-in-Immediate : goal.offset_bounds-regs-rs1-in-Immediate
offset_bounds-regs-rs1-in-Immediate c = let n = rw c.in-Immediate.is at c.requires.formed in omega (arith, c.requires.regs_length)

pub bounds-regs-rs1-in-Immediate : goal.bounds-regs-rs1-in-Immediate
bounds-regs-rs1-in-Immediate c = let n = rw c.in-Immediate.is at c.requires.formed in omega (arith, c.requires.regs_length)

pub offset_bounds-regs-rs1-in-Beqz : goal.offset_bounds-regs-rs1-in-Beqz
offset_bounds-regs-rs1-in-Beqz c = let n = rw c.in-Beqz.is at c.requires.formed in omega (arith, c.requires.regs_length)

pub bounds-regs-rs1-in-Beqz : goal.bounds-regs-rs1-in-Beqz
bounds-regs-rs1-in-Beqz c = let n = rw c.in-Beqz.is at c.requires.formed in omega (arith, c.requires.regs_length)

pub offset_bounds-regs-rs1-in-Bnez : goal.offset_bounds-regs-rs1-in-Bnez
offset_bounds-regs-rs1-in-Bnez c = let n = rw c.in-Bnez.is at c.requires.formed in omega (arith, c.requires.regs_length)

pub bounds-regs-rs1-in-Bnez : goal.bounds-regs-rs1-in-Bnez
bounds-regs-rs1-in-Bnez c = let n = rw c.in-Bnez.is at c.requires.formed in omega (arith, c.requires.regs_length)

pub offset_bounds-regs-rs1-in-Jr : goal.offset_bounds-regs-rs1-in-Jr
offset_bounds-regs-rs1-in-Jr c = let n = rw c.in-Jr.is at c.requires.formed in omega (arith, c.requires.regs_length)

pub bounds-regs-rs1-in-Jr : goal.bounds-regs-rs1-in-Jr
bounds-regs-rs1-in-Jr c = let n = rw c.in-Jr.is at c.requires.formed in omega (arith, c.requires.regs_length)

pub offset_bounds-regs-rs1-in-Jalr : goal.offset_bounds-regs-rs1-in-Jalr
offset_bounds-regs-rs1-in-Jalr c = let n = rw c.in-Jalr.is at c.requires.formed in omega (arith, c.requires.regs_length)

pub bounds-regs-rs1-in-Jalr : goal.bounds-regs-rs1-in-Jalr
bounds-regs-rs1-in-Jalr c = let n = rw c.in-Jalr.is at c.requires.formed in omega (arith, c.requires.regs_length)

pub offset_bounds-regs-rs1-in-Register : goal.offset_bounds-regs-rs1-in-Register
offset_bounds-regs-rs1-in-Register c = let n = rw c.in-Register.is at c.requires.formed in omega (arith, c.requires.regs_length)

pub bounds-regs-rs1-in-Register : goal.bounds-regs-rs1-in-Register
bounds-regs-rs1-in-Register c = let n = rw c.in-Register.is at c.requires.formed in omega (arith, c.requires.regs_length)

pub offset_bounds-regs-rs2 : goal.offset_bounds-regs-rs2
offset_bounds-regs-rs2 c = let n = rw c.in-Register.is at c.requires.formed in omega (arith, c.requires.regs_length)

pub bounds-regs-rs2 : goal.bounds-regs-rs2
bounds-regs-rs2 c = let n = rw c.in-Register.is at c.requires.formed in omega (arith, c.requires.regs_length)

pub offset_bounds-regs-rs1-in-Movi2s : goal.offset_bounds-regs-rs1-in-Movi2s
offset_bounds-regs-rs1-in-Movi2s c = let n = rw c.in-Movi2s.is at c.requires.formed in omega (arith, c.requires.regs_length)

pub bounds-regs-rs1-in-Movi2s : goal.bounds-regs-rs1-in-Movi2s
bounds-regs-rs1-in-Movi2s c = let n = rw c.in-Movi2s.is at c.requires.formed in omega (arith, c.requires.regs_length)

pub returns-in-LoadBy : goal.returns-in-LoadBy
unfolding effect_of
returns-in-LoadBy c = simp (c.load.ensures, c.in-LoadBy.is)

pub returns-in-StoreBy : goal.returns-in-StoreBy
unfolding effect_of
returns-in-StoreBy c = simp (c.store.ensures, c.in-StoreBy.is)

pub returns-in-Immediate : goal.returns-in-Immediate
unfolding effect_of
returns-in-Immediate c = simp (c.operate.ensures, c.wrapping_add_u32-next.ensures.value, c.in-Immediate.is)

pub returns-in-Lhgi : goal.returns-in-Lhgi
unfolding effect_of
returns-in-Lhgi c = simp (c.plain.ensures, c.wrapping_add_u32-next.ensures.value, c.in-Lhgi.is)

pub returns-in-Beqz : goal.returns-in-Beqz
unfolding effect_of
returns-in-Beqz c = simp (c.branch-regs.ensures, c.wrapping_add_u32.ensures.value, c.wrapping_add_u32-next.ensures.value, c.in-Beqz.is)

pub returns-in-Bnez : goal.returns-in-Bnez
unfolding effect_of
returns-in-Bnez c = simp (c.branch-regs-in-Bnez.ensures, c.wrapping_add_u32-in-Bnez.ensures.value, c.wrapping_add_u32-next.ensures.value, c.in-Bnez.is)

pub returns-in-Jr : goal.returns-in-Jr
unfolding effect_of
returns-in-Jr c = simp (c.plain-in-Jr.ensures, c.in-Jr.is)

pub returns-in-Jalr : goal.returns-in-Jalr
unfolding effect_of
returns-in-Jalr c = simp (c.plain-in-Jalr.ensures, c.wrapping_add_u32-next.ensures.value, c.in-Jalr.is)

pub returns-in-J : goal.returns-in-J
unfolding effect_of
returns-in-J c = simp (c.plain-in-J.ensures, c.wrapping_add_u32-in-J.ensures.value, c.in-J.is)

pub returns-in-Jal : goal.returns-in-Jal
unfolding effect_of
returns-in-Jal c = simp (c.plain-in-Jal.ensures, c.wrapping_add_u32-in-Jal.ensures.value, c.wrapping_add_u32-next.ensures.value, c.in-Jal.is)

pub returns-in-Trap : goal.returns-in-Trap
unfolding effect_of
returns-in-Trap c = simp (c.trap.ensures, c.in-Trap.is)

pub returns-in-Rfe : goal.returns-in-Rfe
unfolding effect_of
returns-in-Rfe c = simp (c.privileged.ensures, c.in-Rfe.is)

pub returns-in-Register : goal.returns-in-Register
unfolding effect_of
returns-in-Register c = simp (c.operate-in-Register.ensures, c.wrapping_add_u32-next.ensures.value, c.in-Register.is)

pub returns-in-Movs2i : goal.returns-in-Movs2i
unfolding effect_of
returns-in-Movs2i c = simp (c.privileged-in-Movs2i.ensures, c.plain-in-Movs2i.ensures, c.special.ensures, c.wrapping_add_u32-next.ensures.value, c.in-Movs2i.is)

pub returns-in-Movi2s : goal.returns-in-Movi2s
unfolding effect_of
returns-in-Movi2s c = simp (c.privileged-in-Movi2s.ensures, c.move_to.ensures, c.in-Movi2s.is)

pub returns-in-Ill : goal.returns-in-Ill
unfolding effect_of
returns-in-Ill c = simp (c.in-Ill.is)
