use Rattle.dlx.specs.Instructions.{instruction_of}
use Rattle.std.proofs.Common.{◌≡◌, ℕ, ◌/◌, ◌<◌, ◌≤◌, false, ◌&&◌, leb, ◌⊎◌, refl, inl, inr, arith, ne_eqb, le-leb}
use borrow.Author.Tests.{lt-leb}
use Rattle.processor.proofs.instruction.read_instruction.Goals as goal

-- the range's lower test is made where 22 and 23 are told apart already
past : (n : ℕ) → 22 ≤ n → (n ≡ 22 → ⊥) → (n ≡ 23 → ⊥) → 24 ≤ n
past n h p q = omega arith

-- what is left is outside it on either side
outside : (n : ℕ) → (n < 22) ⊎ (32 ≤ n) → (leb 24 n && leb n 31) ≡ false
outside n (inl h) = simp (lt-leb 24 n (omega arith))
outside n (inr h) = simp (le-leb 24 n (omega arith), lt-leb n 31 (omega arith))

pub extend-imm-requires : goal.extend-imm-requires
extend-imm-requires c = (15, omega arith, refl)

pub extend-requires : goal.extend-requires
extend-requires c = (25, omega arith, refl)

pub extend-requires-in-3 : goal.extend-requires-in-3
extend-requires-in-3 c = (25, omega arith, refl)

pub extend-requires-in-62 : goal.extend-requires-in-62
extend-requires-in-62 c = (25, omega arith, refl)

pub overflow_sub-result : goal.overflow_sub-result
overflow_sub-result c = past _ c.in-24-to-31.if-opcode-lt22-own.false c.in-24-to-31.in_default-own.rest.0.0.0.0.0.0.1 c.in-24-to-31.in_default-own.rest.0.0.0.0.0.1

pub returns-in-35 : goal.returns-in-35
unfolding instruction_of
returns-in-35 c = simp (c.extend-imm.ensures, c.wide-rd.ensures, c.wide-rs1.ensures, c.in-35.is)

pub returns-in-43 : goal.returns-in-43
unfolding instruction_of
returns-in-43 c = simp (c.extend-imm.ensures, c.wide-rd.ensures, c.wide-rs1.ensures, c.in-43.is)

pub returns-in-8 : goal.returns-in-8
unfolding instruction_of
returns-in-8 c = simp (c.extend-imm.ensures, c.wide-rd.ensures, c.wide-rs1.ensures, c.in-8.is)

pub returns-in-10 : goal.returns-in-10
unfolding instruction_of
returns-in-10 c = simp (c.extend-imm.ensures, c.wide-rd.ensures, c.wide-rs1.ensures, c.in-10.is)

pub returns-in-12 : goal.returns-in-12
unfolding instruction_of
returns-in-12 c = simp (c.extend-imm.ensures, c.wide-rd.ensures, c.wide-rs1.ensures, c.in-12.is)

pub returns-in-13 : goal.returns-in-13
unfolding instruction_of
returns-in-13 c = simp (c.extend-imm.ensures, c.wide-rd.ensures, c.wide-rs1.ensures, c.in-13.is)

pub returns-in-14 : goal.returns-in-14
unfolding instruction_of
returns-in-14 c = simp (c.extend-imm.ensures, c.wide-rd.ensures, c.wide-rs1.ensures, c.in-14.is)

pub returns-in-15 : goal.returns-in-15
unfolding instruction_of
returns-in-15 c = simp (c.extend-imm.ensures, c.wide-rd.ensures, c.wide-rs1.ensures, c.in-15.is)

pub returns-in-4 : goal.returns-in-4
unfolding instruction_of
returns-in-4 c = simp (c.extend-imm.ensures, c.wide-rd.ensures, c.wide-rs1.ensures, c.in-4.is)

pub returns-in-5 : goal.returns-in-5
unfolding instruction_of
returns-in-5 c = simp (c.extend-imm.ensures, c.wide-rd.ensures, c.wide-rs1.ensures, c.in-5.is)

pub returns-in-22 : goal.returns-in-22
unfolding instruction_of
returns-in-22 c = simp (c.extend-imm.ensures, c.wide-rd.ensures, c.wide-rs1.ensures, c.in-22.is)

pub returns-in-23 : goal.returns-in-23
unfolding instruction_of
returns-in-23 c = simp (c.extend-imm.ensures, c.wide-rd.ensures, c.wide-rs1.ensures, c.in-23.is)

pub returns-in-2 : goal.returns-in-2
unfolding instruction_of
returns-in-2 c = simp (c.extend.ensures, c.extend-imm.ensures, c.wide-rd.ensures, c.wide-rs1.ensures, c.in-2.is)

pub returns-in-3 : goal.returns-in-3
unfolding instruction_of
returns-in-3 c = simp (c.extend-in-3.ensures, c.extend-imm.ensures, c.wide-rd.ensures, c.wide-rs1.ensures, c.in-3.is)

pub returns-in-62 : goal.returns-in-62
unfolding instruction_of
returns-in-62 c = simp (c.extend-in-62.ensures, c.extend-imm.ensures, c.wide-rd.ensures, c.wide-rs1.ensures, c.in-62.is)

pub returns-in-63 : goal.returns-in-63
unfolding instruction_of
returns-in-63 c = simp (c.extend-imm.ensures, c.wide-rd.ensures, c.wide-rs1.ensures, c.in-63.is)

pub returns-in-0 : goal.returns-in-0
unfolding instruction_of
returns-in-0 c = simp (c.read_register_type.ensures, c.extend-imm.ensures, c.wide-rd.ensures, c.wide-rs1.ensures, c.in-0.is)

pub returns-in-24-to-31 : goal.returns-in-24-to-31
unfolding instruction_of
returns-in-24-to-31 c = simp (c.extend-imm.ensures, c.wide-rd.ensures, c.wide-rs1.ensures, le-leb (c.args.w / 67108864) 31 (omega (arith, c.in-24-to-31.if-opcode-lt32-own.true)), le-leb _ _ (past _ c.in-24-to-31.if-opcode-lt22-own.false c.in-24-to-31.in_default-own.rest.0.0.0.0.0.0.1 c.in-24-to-31.in_default-own.rest.0.0.0.0.0.1), ne_eqb _ _ c.in-24-to-31.in_default-own.rest.1, ne_eqb _ _ c.in-24-to-31.in_default-own.rest.0.1, ne_eqb _ _ c.in-24-to-31.in_default-own.rest.0.0.1, ne_eqb _ _ c.in-24-to-31.in_default-own.rest.0.0.0.1, ne_eqb _ _ c.in-24-to-31.in_default-own.rest.0.0.0.0.1, ne_eqb _ _ c.in-24-to-31.in_default-own.rest.0.0.0.0.0.1, ne_eqb _ _ c.in-24-to-31.in_default-own.rest.0.0.0.0.0.0.1, ne_eqb _ _ c.in-24-to-31.in_default-own.rest.0.0.0.0.0.0.0.1, ne_eqb _ _ c.in-24-to-31.in_default-own.rest.0.0.0.0.0.0.0.0.1, ne_eqb _ _ c.in-24-to-31.in_default-own.rest.0.0.0.0.0.0.0.0.0.1, ne_eqb _ _ c.in-24-to-31.in_default-own.rest.0.0.0.0.0.0.0.0.0.0.1, ne_eqb _ _ c.in-24-to-31.in_default-own.rest.0.0.0.0.0.0.0.0.0.0.0.1, ne_eqb _ _ c.in-24-to-31.in_default-own.rest.0.0.0.0.0.0.0.0.0.0.0.0.1, ne_eqb _ _ c.in-24-to-31.in_default-own.rest.0.0.0.0.0.0.0.0.0.0.0.0.0.1, ne_eqb _ _ c.in-24-to-31.in_default-own.rest.0.0.0.0.0.0.0.0.0.0.0.0.0.0.1, ne_eqb _ _ c.in-24-to-31.in_default-own.rest.0.0.0.0.0.0.0.0.0.0.0.0.0.0.0.1, ne_eqb _ _ c.in-24-to-31.in_default-own.rest.0.0.0.0.0.0.0.0.0.0.0.0.0.0.0.0.1)

pub returns-in_default : goal.returns-in_default
unfolding instruction_of
returns-in_default c =
    let n = c.args.w / 67108864 in
    let o : (leb 24 n && leb n 31) ≡ false = outside n (elim c.in_default.branch [ goal.in_default-via-then-opcode-lt22 w ↦ inl w.if-opcode-lt22-1.true | goal.in_default-via-else-opcode-lt22+else-opcode-lt32 w ↦ inr w.if-opcode-lt32-1.false ]) in
    simp (c.read_part_type.ensures, o, ne_eqb _ _ c.in_default-1.rest.1, ne_eqb _ _ c.in_default-1.rest.0.1, ne_eqb _ _ c.in_default-1.rest.0.0.1, ne_eqb _ _ c.in_default-1.rest.0.0.0.1, ne_eqb _ _ c.in_default-1.rest.0.0.0.0.1, ne_eqb _ _ c.in_default-1.rest.0.0.0.0.0.1, ne_eqb _ _ c.in_default-1.rest.0.0.0.0.0.0.1, ne_eqb _ _ c.in_default-1.rest.0.0.0.0.0.0.0.1, ne_eqb _ _ c.in_default-1.rest.0.0.0.0.0.0.0.0.1, ne_eqb _ _ c.in_default-1.rest.0.0.0.0.0.0.0.0.0.1, ne_eqb _ _ c.in_default-1.rest.0.0.0.0.0.0.0.0.0.0.1, ne_eqb _ _ c.in_default-1.rest.0.0.0.0.0.0.0.0.0.0.0.1, ne_eqb _ _ c.in_default-1.rest.0.0.0.0.0.0.0.0.0.0.0.0.1, ne_eqb _ _ c.in_default-1.rest.0.0.0.0.0.0.0.0.0.0.0.0.0.1, ne_eqb _ _ c.in_default-1.rest.0.0.0.0.0.0.0.0.0.0.0.0.0.0.1, ne_eqb _ _ c.in_default-1.rest.0.0.0.0.0.0.0.0.0.0.0.0.0.0.0.1, ne_eqb _ _ c.in_default-1.rest.0.0.0.0.0.0.0.0.0.0.0.0.0.0.0.0.1)
