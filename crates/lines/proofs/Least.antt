-- What it is that a word's ignored fields are 0, with no table: it is the least of the words that `dlx` reads as this instruction.
use mathlib.Core.Path.{◌≡◌, refl, sym, ap, ◌∙◌}
use mathlib.Core.Bool.{Bool, true, false, ◌&&◌}
use mathlib.Core.List.{◌++◌}
use Prim.Native.Nat.{ℕ, ◌+◌, ◌-◌, ◌*◌, ◌/◌, ◌%◌, ◌^◌, ◌<◌, ◌≤◌}
use native.Mathlib.Nat.{add-mul-mod_self_left, mod-eq_of_lt, mod-lt}
use native.Mathlib.Omega.{arith}
use borrow.Author.Tests.{eqb-true, ne_eqb, leb-true}
use lib.Dec.{eqb, leb}
use Rattle.dlx.proofs.Tests.{and_left}
use Rattle.dlx.specs.Choice.{when◌then◌else◌}
use Rattle.dlx.specs.Words.{opcode, function, rs1, rs2, rd_register, sa, extended_by}
use Rattle.dlx.specs.Instructions.{instruction_of, register_type, part_type}
use Rattle.dlx.specs.declared.instruction.Instruction.{Instruction}
use Rattle.dlx.specs.declared.instruction.Instruction.TheVariants.{Ill}
use Rattle.decimal.specs.Decimals.{decimal}
use Rattle.decimal.specs.Texts.{ascii}
use Rattle.lines.specs.Table.{operand_at}
use Rattle.lines.specs.Lines.{bare_of, made, remade, line_of}
use Rattle.lines.specs.Called.{legal, immediate_row, register_row, row_for, Least, word_of, text_of}
use Rattle.lines.proofs.Agreement.{remade_is, named_line, word_line}

-- ---- a word by its fields

abbrev word : ℕ → ℕ → ℕ → ℕ → ℕ → ℕ → ℕ
word o b a r s f = o * 2 ^ 26 + b * 2 ^ 21 + a * 2 ^ 16 + r * 2 ^ 11 + s * 2 ^ 6 + f

module _ (o b a r s f : ℕ) (hb : b < 32) (ha : a < 32) (hr : r < 32) (hs : s < 32) (hf : f < 64) where
  word_opcode : opcode (word o b a r s f) ≡ o
  word_opcode = omega arith

  word_rs1 : rs1 (word o b a r s f) ≡ b
  word_rs1 = let e : word o b a r s f / 2 ^ 21 ≡ b + 32 * o = omega arith in rw e (add-mul-mod_self_left b 32 o ∙ mod-eq_of_lt hb)

  word_rs2 : rs2 (word o b a r s f) ≡ a
  word_rs2 = let e : word o b a r s f / 2 ^ 16 ≡ a + 32 * (o * 32 + b) = omega arith in rw e (add-mul-mod_self_left a 32 (o * 32 + b) ∙ mod-eq_of_lt ha)

  word_rd : rd_register (word o b a r s f) ≡ r
  word_rd = let e : word o b a r s f / 2 ^ 11 ≡ r + 32 * ((o * 32 + b) * 32 + a) = omega arith in rw e (add-mul-mod_self_left r 32 ((o * 32 + b) * 32 + a) ∙ mod-eq_of_lt hr)

  word_sa : sa (word o b a r s f) ≡ s
  word_sa = let e : word o b a r s f / 2 ^ 6 ≡ s + 32 * (((o * 32 + b) * 32 + a) * 32 + r) = omega arith in rw e (add-mul-mod_self_left s 32 (((o * 32 + b) * 32 + a) * 32 + r) ∙ mod-eq_of_lt hs)

  word_function : function (word o b a r s f) ≡ f
  word_function = let e : word o b a r s f ≡ f + 64 * ((((o * 32 + b) * 32 + a) * 32 + r) * 32 + s) = omega arith in rw e (add-mul-mod_self_left f 64 ((((o * 32 + b) * 32 + a) * 32 + r) * 32 + s) ∙ mod-eq_of_lt hf)

  word_low : word o b a r s f % 2 ^ 16 ≡ r * 2 ^ 11 + s * 2 ^ 6 + f
  word_low =
      let e : word o b a r s f ≡ r * 2 ^ 11 + s * 2 ^ 6 + f + 2 ^ 16 * ((o * 32 + b) * 32 + a) = omega arith in
      rw e (add-mul-mod_self_left (r * 2 ^ 11 + s * 2 ^ 6 + f) (2 ^ 16) ((o * 32 + b) * 32 + a) ∙ mod-eq_of_lt (omega arith))

module _ (w : ℕ) where
  word_is : w ≡ word (opcode w) (rs1 w) (rs2 w) (rd_register w) (sa w) (function w)
  word_is =
      let e1 : w ≡ w / 2 ^ 6 * 64 + w % 64 = omega arith in
      let e2 : w / 2 ^ 6 ≡ w / 2 ^ 11 * 32 + w / 2 ^ 6 % 32 = omega arith in
      let e3 : w / 2 ^ 11 ≡ w / 2 ^ 16 * 32 + w / 2 ^ 11 % 32 = omega arith in
      let e4 : w / 2 ^ 16 ≡ w / 2 ^ 21 * 32 + w / 2 ^ 16 % 32 = omega arith in
      let e5 : w / 2 ^ 21 ≡ w / 2 ^ 26 * 32 + w / 2 ^ 21 % 32 = omega arith in
      joined _ _ _ _ _ _ _ _ _ _ _ e1 e2 e3 e4 e5
    where
      joined : (w q1 q2 q3 q4 o b a r s f : ℕ) → w ≡ q1 * 64 + f → q1 ≡ q2 * 32 + s → q2 ≡ q3 * 32 + r → q3 ≡ q4 * 32 + a → q4 ≡ o * 32 + b → w ≡ word o b a r s f
      joined w q1 q2 q3 q4 o b a r s f e1 e2 e3 e4 e5 = omega arith

  low_split : w % 2 ^ 16 ≡ rd_register w * 2 ^ 11 + sa w * 2 ^ 6 + function w
  low_split =
      ap (λ (x : ℕ). x % 2 ^ 16) word_is
      ∙ word_low (opcode w) (rs1 w) (rs2 w) (rd_register w) (sa w) (function w) (omega arith) (omega arith) (omega arith) (omega arith) (omega arith)

-- ---- two words are one instruction

module _ (w v : ℕ) where
  same_lhgi : opcode w ≡ 15 → opcode v ≡ 15 → rs2 v ≡ rs2 w → v % 2 ^ 16 ≡ w % 2 ^ 16 → instruction_of v ≡ instruction_of w
  unfolding instruction_of extended_by
  same_lhgi e q x y = rw (e, q, x, y)

  same_beqz : opcode w ≡ 4 → opcode v ≡ 4 → rs1 v ≡ rs1 w → v % 2 ^ 16 ≡ w % 2 ^ 16 → instruction_of v ≡ instruction_of w
  unfolding instruction_of extended_by
  same_beqz e q x y = rw (e, q, x, y)

  same_bnez : opcode w ≡ 5 → opcode v ≡ 5 → rs1 v ≡ rs1 w → v % 2 ^ 16 ≡ w % 2 ^ 16 → instruction_of v ≡ instruction_of w
  unfolding instruction_of extended_by
  same_bnez e q x y = rw (e, q, x, y)

  same_jr : opcode w ≡ 22 → opcode v ≡ 22 → rs1 v ≡ rs1 w → instruction_of v ≡ instruction_of w
  unfolding instruction_of
  same_jr e q x = rw (e, q, x)

  same_jalr : opcode w ≡ 23 → opcode v ≡ 23 → rs1 v ≡ rs1 w → instruction_of v ≡ instruction_of w
  unfolding instruction_of
  same_jalr e q x = rw (e, q, x)

  same_rfe : opcode w ≡ 63 → opcode v ≡ 63 → instruction_of v ≡ instruction_of w
  unfolding instruction_of
  same_rfe e q = rw (e, q)

  same_zero : opcode w ≡ 0 → opcode v ≡ 0 → register_type v ≡ register_type w → instruction_of v ≡ instruction_of w
  unfolding instruction_of
  same_zero e q x = rw (e, q) x

  same_registers : function v ≡ function w → (function w ≡ 16 → ⊥) → (function w ≡ 17 → ⊥) → rd_register v ≡ rd_register w → rs1 v ≡ rs1 w → rs2 v ≡ rs2 w → register_type v ≡ register_type w
  unfolding register_type
  same_registers e n m x y z = rw (e, x, y, z, ne_eqb (function w) 16 n, ne_eqb (function w) 17 m)

  same_movs2i : function w ≡ 16 → function v ≡ 16 → rd_register v ≡ rd_register w → sa v ≡ sa w → register_type v ≡ register_type w
  unfolding register_type
  same_movs2i e q x y = rw (e, q, x, y)

  same_movi2s : function w ≡ 17 → function v ≡ 17 → rs1 v ≡ rs1 w → sa v ≡ sa w → register_type v ≡ register_type w
  unfolding register_type
  same_movi2s e q x y = rw (e, q, x, y)

-- ---- the word of a row: what is not used is 0. Over plain variables: n is a field that is not there

module _ (o b a r s f x n : ℕ) (ho : o < 64) (hb : b < 32) (ha : a < 32) (hr : r < 32) (hs : s < 32) (hf : f < 64) (ex : x ≡ r * 2 ^ 11 + s * 2 ^ 6 + f) (en : n ≡ 0) where
  short_sum : (o * 64 / 64 * 2 ^ 26 + o * 64 % 64 + a * 2 ^ 16 + b * 2 ^ 21 + x * 1) % 2 ^ 32 ≡ word o b a r s f
  short_sum = let e : o * 64 / 64 * 2 ^ 26 + o * 64 % 64 + a * 2 ^ 16 + b * 2 ^ 21 + x * 1 ≡ word o b a r s f = omega arith in rw e (mod-eq_of_lt (omega arith))

  high_sum : (o * 64 / 64 * 2 ^ 26 + o * 64 % 64 + n * 1 + a * 2 ^ 16 + x * 1) % 2 ^ 32 ≡ word o 0 a r s f
  high_sum = let e : o * 64 / 64 * 2 ^ 26 + o * 64 % 64 + n * 1 + a * 2 ^ 16 + x * 1 ≡ word o 0 a r s f = omega arith in rw e (mod-eq_of_lt (omega arith))

  branch_sum : (o * 64 / 64 * 2 ^ 26 + o * 64 % 64 + n * 1 + b * 2 ^ 21 + x * 1) % 2 ^ 32 ≡ word o b 0 r s f
  branch_sum = let e : o * 64 / 64 * 2 ^ 26 + o * 64 % 64 + n * 1 + b * 2 ^ 21 + x * 1 ≡ word o b 0 r s f = omega arith in rw e (mod-eq_of_lt (omega arith))

  jump_sum : (o * 64 / 64 * 2 ^ 26 + o * 64 % 64 + n * 1 + n * 1 + b * 2 ^ 21) % 2 ^ 32 ≡ word o b 0 0 0 0
  jump_sum = let e : o * 64 / 64 * 2 ^ 26 + o * 64 % 64 + n * 1 + n * 1 + b * 2 ^ 21 ≡ word o b 0 0 0 0 = omega arith in rw e (mod-eq_of_lt (omega arith))

  return_sum : (o * 64 / 64 * 2 ^ 26 + o * 64 % 64 + n * 1 + n * 1 + n * 1) % 2 ^ 32 ≡ word o 0 0 0 0 0
  return_sum = let e : o * 64 / 64 * 2 ^ 26 + o * 64 % 64 + n * 1 + n * 1 + n * 1 ≡ word o 0 0 0 0 0 = omega arith in rw e (mod-eq_of_lt (omega arith))

  register_sum : (f / 64 * 2 ^ 26 + f % 64 + r * 2 ^ 11 + b * 2 ^ 21 + a * 2 ^ 16) % 2 ^ 32 ≡ word 0 b a r 0 f
  register_sum = let e : f / 64 * 2 ^ 26 + f % 64 + r * 2 ^ 11 + b * 2 ^ 21 + a * 2 ^ 16 ≡ word 0 b a r 0 f = omega arith in rw e (mod-eq_of_lt (omega arith))

  movs2i_sum : (f / 64 * 2 ^ 26 + f % 64 + n * 1 + r * 2 ^ 11 + s * 2 ^ 6) % 2 ^ 32 ≡ word 0 0 0 r s f
  movs2i_sum = let e : f / 64 * 2 ^ 26 + f % 64 + n * 1 + r * 2 ^ 11 + s * 2 ^ 6 ≡ word 0 0 0 r s f = omega arith in rw e (mod-eq_of_lt (omega arith))

  movi2s_sum : (f / 64 * 2 ^ 26 + f % 64 + n * 1 + s * 2 ^ 6 + b * 2 ^ 21) % 2 ^ 32 ≡ word 0 b 0 0 s f
  movi2s_sum = let e : f / 64 * 2 ^ 26 + f % 64 + n * 1 + s * 2 ^ 6 + b * 2 ^ 21 ≡ word 0 b 0 0 s f = omega arith in rw e (mod-eq_of_lt (omega arith))

-- ---- every instruction again from its word

record Again (w : ℕ) (i : Instruction) : Type 0 where
  same : legal i ≡ true → instruction_of (remade (row_for i) w) ≡ instruction_of w
  under : remade (row_for i) w ≤ w

module _ (w : ℕ) (lw : w < 2 ^ 32) where
  ill : Again w Ill
  unfolding legal remade made row_for bare_of operand_at
  ill = record { same = λ e. cc; under = omega arith }

  b5 : (k : ℕ) → w / k % 32 < 32
  b5 k = mod-lt (w / k) (omega arith)

  b6 : function w < 64
  b6 = omega arith

  low16 : w / 1 % 2 ^ 16 ≡ rd_register w * 2 ^ 11 + sa w * 2 ^ 6 + function w
  low16 = let e : w / 1 % 2 ^ 16 ≡ w % 2 ^ 16 = omega arith in e ∙ low_split w

  not_there : w / 1 % 1 ≡ 0
  not_there = omega arith

  module _ (o : ℕ) (e : opcode w ≡ o) where
    short_all : (o * 64 / 64 * 2 ^ 26 + o * 64 % 64 + w / 2 ^ 16 % 32 * 2 ^ 16 + w / 2 ^ 21 % 32 * 2 ^ 21 + w / 1 % 2 ^ 16 * 1) % 2 ^ 32 ≡ w
    short_all =
        short_sum o (rs1 w) (rs2 w) (rd_register w) (sa w) (function w) (w / 1 % 2 ^ 16) (w / 1 % 1) (omega arith) (omega arith) (omega arith) (omega arith) (omega arith) (omega arith) low16 not_there
        ∙ rw (← e) (sym (word_is w))

    long_all : (o * 64 / 64 * 2 ^ 26 + o * 64 % 64 + w / 1 % 1 * 1 + w / 1 % 1 * 1 + w / 1 % 2 ^ 26 * 1) % 2 ^ 32 ≡ w
    long_all = long_sum o w (w / 1 % 2 ^ 26) (w / 1 % 1) lw (omega arith) not_there
      where
        long_sum : (o w x n : ℕ) → w < 2 ^ 32 → w ≡ o * 2 ^ 26 + x → n ≡ 0 → (o * 64 / 64 * 2 ^ 26 + o * 64 % 64 + n * 1 + n * 1 + x * 1) % 2 ^ 32 ≡ w
        long_sum o w x n l e z = let q : o * 64 / 64 * 2 ^ 26 + o * 64 % 64 + n * 1 + n * 1 + x * 1 ≡ w = omega arith in rw q (mod-eq_of_lt l)

  zero32 : 0 < 32
  zero32 = omega arith

  -- what is left, the instruction that it is, and that it is no larger
  record Left (i : Instruction) : Type 0 where
    is : ℕ
    made_so : remade (row_for i) w ≡ is
    reads : instruction_of is ≡ instruction_of w
    less : is ≤ w

  left : {i : Instruction} → Left i → Again w i
  left l = let e = l.made_so in record { same = λ _. rw e l.reads; under = omega (arith, l.less) }

  whole_left : {i : Instruction} → remade (row_for i) w ≡ w → Left i
  whole_left e = record { is = w; made_so = e; reads = refl; less = omega arith }

  module _ (o : ℕ) (e : opcode w ≡ o) where
    low_o : o < 64
    low_o = omega arith

    parts : w ≡ word o (rs1 w) (rs2 w) (rd_register w) (sa w) (function w)
    parts = rw (← e) (word_is w)

    high_made : (o * 64 / 64 * 2 ^ 26 + o * 64 % 64 + w / 1 % 1 * 1 + w / 2 ^ 16 % 32 * 2 ^ 16 + w / 1 % 2 ^ 16 * 1) % 2 ^ 32 ≡ word o 0 (rs2 w) (rd_register w) (sa w) (function w)
    high_made = high_sum o (rs1 w) (rs2 w) (rd_register w) (sa w) (function w) (w / 1 % 2 ^ 16) (w / 1 % 1) low_o (b5 (2 ^ 21)) (b5 (2 ^ 16)) (b5 (2 ^ 11)) (b5 (2 ^ 6)) b6 low16 not_there

    branch_made : (o * 64 / 64 * 2 ^ 26 + o * 64 % 64 + w / 1 % 1 * 1 + w / 2 ^ 21 % 32 * 2 ^ 21 + w / 1 % 2 ^ 16 * 1) % 2 ^ 32 ≡ word o (rs1 w) 0 (rd_register w) (sa w) (function w)
    branch_made = branch_sum o (rs1 w) (rs2 w) (rd_register w) (sa w) (function w) (w / 1 % 2 ^ 16) (w / 1 % 1) low_o (b5 (2 ^ 21)) (b5 (2 ^ 16)) (b5 (2 ^ 11)) (b5 (2 ^ 6)) b6 low16 not_there

    jump_made : (o * 64 / 64 * 2 ^ 26 + o * 64 % 64 + w / 1 % 1 * 1 + w / 1 % 1 * 1 + w / 2 ^ 21 % 32 * 2 ^ 21) % 2 ^ 32 ≡ word o (rs1 w) 0 0 0 0
    jump_made = jump_sum o (rs1 w) (rs2 w) (rd_register w) (sa w) (function w) (w / 1 % 2 ^ 16) (w / 1 % 1) low_o (b5 (2 ^ 21)) (b5 (2 ^ 16)) (b5 (2 ^ 11)) (b5 (2 ^ 6)) b6 low16 not_there

    return_made : (o * 64 / 64 * 2 ^ 26 + o * 64 % 64 + w / 1 % 1 * 1 + w / 1 % 1 * 1 + w / 1 % 1 * 1) % 2 ^ 32 ≡ word o 0 0 0 0 0
    return_made = return_sum o (rs1 w) (rs2 w) (rd_register w) (sa w) (function w) (w / 1 % 2 ^ 16) (w / 1 % 1) low_o (b5 (2 ^ 21)) (b5 (2 ^ 16)) (b5 (2 ^ 11)) (b5 (2 ^ 6)) b6 low16 not_there

    high_left : word o 0 (rs2 w) (rd_register w) (sa w) (function w) ≤ w
    high_left = omega (arith, parts)

    branch_left : word o (rs1 w) 0 (rd_register w) (sa w) (function w) ≤ w
    branch_left = omega (arith, parts)

    jump_left : word o (rs1 w) 0 0 0 0 ≤ w
    jump_left = omega (arith, parts)

    return_left : word o 0 0 0 0 0 ≤ w
    return_left = omega (arith, parts)

    branch_reads : (opcode (word o (rs1 w) 0 (rd_register w) (sa w) (function w)) ≡ o) × (rs1 (word o (rs1 w) 0 (rd_register w) (sa w) (function w)) ≡ rs1 w)
        × (word o (rs1 w) 0 (rd_register w) (sa w) (function w) % 2 ^ 16 ≡ w % 2 ^ 16)
    branch_reads = (
      word_opcode o (rs1 w) 0 (rd_register w) (sa w) (function w) (b5 (2 ^ 21)) zero32 (b5 (2 ^ 11)) (b5 (2 ^ 6)) b6,
      word_rs1 o (rs1 w) 0 (rd_register w) (sa w) (function w) (b5 (2 ^ 21)) zero32 (b5 (2 ^ 11)) (b5 (2 ^ 6)) b6,
      word_low o (rs1 w) 0 (rd_register w) (sa w) (function w) (b5 (2 ^ 21)) zero32 (b5 (2 ^ 11)) (b5 (2 ^ 6)) b6 ∙ sym (low_split w),
    )

    jump_reads : (opcode (word o (rs1 w) 0 0 0 0) ≡ o) × (rs1 (word o (rs1 w) 0 0 0 0) ≡ rs1 w)
    jump_reads = (word_opcode o (rs1 w) 0 0 0 0 (b5 (2 ^ 21)) zero32 zero32 zero32 (omega arith), word_rs1 o (rs1 w) 0 0 0 0 (b5 (2 ^ 21)) zero32 zero32 zero32 (omega arith))

  lhgi_reads : opcode w ≡ 15 → instruction_of (word 15 0 (rs2 w) (rd_register w) (sa w) (function w)) ≡ instruction_of w
  lhgi_reads e =
      same_lhgi w (word 15 0 (rs2 w) (rd_register w) (sa w) (function w)) e
      (word_opcode 15 0 (rs2 w) (rd_register w) (sa w) (function w) zero32 (b5 (2 ^ 16)) (b5 (2 ^ 11)) (b5 (2 ^ 6)) b6)
      (word_rs2 15 0 (rs2 w) (rd_register w) (sa w) (function w) zero32 (b5 (2 ^ 16)) (b5 (2 ^ 11)) (b5 (2 ^ 6)) b6)
      (word_low 15 0 (rs2 w) (rd_register w) (sa w) (function w) zero32 (b5 (2 ^ 16)) (b5 (2 ^ 11)) (b5 (2 ^ 6)) b6 ∙ sym (low_split w))

  module _ (e : opcode w ≡ 0) where
    zero_parts : w ≡ word 0 (rs1 w) (rs2 w) (rd_register w) (sa w) (function w)
    zero_parts = omega (arith, word_is w)

    register_made : (f : ℕ) → function w ≡ f → (f / 64 * 2 ^ 26 + f % 64 + w / 2 ^ 11 % 32 * 2 ^ 11 + w / 2 ^ 21 % 32 * 2 ^ 21 + w / 2 ^ 16 % 32 * 2 ^ 16) % 2 ^ 32 ≡ word 0 (rs1 w) (rs2 w) (rd_register w) 0 (function w)
    register_made f q = rw (← q) (register_sum 0 (rs1 w) (rs2 w) (rd_register w) (sa w) (function w) (w / 1 % 2 ^ 16) (w / 1 % 1) (omega arith) (b5 (2 ^ 21)) (b5 (2 ^ 16)) (b5 (2 ^ 11)) (b5 (2 ^ 6)) b6 low16 not_there)

    register_left : word 0 (rs1 w) (rs2 w) (rd_register w) 0 (function w) ≤ w
    register_left = omega (arith, zero_parts)

    register_reads : (function w ≡ 16 → ⊥) → (function w ≡ 17 → ⊥) → instruction_of (word 0 (rs1 w) (rs2 w) (rd_register w) 0 (function w)) ≡ instruction_of w
    register_reads n m =
        let v = word 0 (rs1 w) (rs2 w) (rd_register w) 0 (function w) in
        same_zero w v e (word_opcode 0 (rs1 w) (rs2 w) (rd_register w) 0 (function w) (b5 (2 ^ 21)) (b5 (2 ^ 16)) (b5 (2 ^ 11)) zero32 b6)
        (same_registers w v (word_function 0 (rs1 w) (rs2 w) (rd_register w) 0 (function w) (b5 (2 ^ 21)) (b5 (2 ^ 16)) (b5 (2 ^ 11)) zero32 b6) n m
        (word_rd 0 (rs1 w) (rs2 w) (rd_register w) 0 (function w) (b5 (2 ^ 21)) (b5 (2 ^ 16)) (b5 (2 ^ 11)) zero32 b6)
        (word_rs1 0 (rs1 w) (rs2 w) (rd_register w) 0 (function w) (b5 (2 ^ 21)) (b5 (2 ^ 16)) (b5 (2 ^ 11)) zero32 b6)
        (word_rs2 0 (rs1 w) (rs2 w) (rd_register w) 0 (function w) (b5 (2 ^ 21)) (b5 (2 ^ 16)) (b5 (2 ^ 11)) zero32 b6))

    register_word : (f : ℕ) {i : Instruction} → function w ≡ f → (f ≡ 16 → ⊥) → (f ≡ 17 → ⊥)
        → remade (row_for i) w ≡ word 0 (rs1 w) (rs2 w) (rd_register w) 0 (function w) → Left i
    register_word f q n m k =
        record { is = word 0 (rs1 w) (rs2 w) (rd_register w) 0 (function w); made_so = k; reads = register_reads (λ z. n (sym q ∙ z)) (λ z. m (sym q ∙ z)); less = register_left }

    movs2i_made : (16 / 64 * 2 ^ 26 + 16 % 64 + w / 1 % 1 * 1 + w / 2 ^ 11 % 32 * 2 ^ 11 + w / 2 ^ 6 % 32 * 2 ^ 6) % 2 ^ 32 ≡ word 0 0 0 (rd_register w) (sa w) 16
    movs2i_made = movs2i_sum 0 (rs1 w) (rs2 w) (rd_register w) (sa w) 16 (rd_register w * 2 ^ 11 + sa w * 2 ^ 6 + 16) (w / 1 % 1) (omega arith) (b5 (2 ^ 21)) (b5 (2 ^ 16)) (b5 (2 ^ 11)) (b5 (2 ^ 6)) (omega arith) refl not_there

    movi2s_made : (17 / 64 * 2 ^ 26 + 17 % 64 + w / 1 % 1 * 1 + w / 2 ^ 6 % 32 * 2 ^ 6 + w / 2 ^ 21 % 32 * 2 ^ 21) % 2 ^ 32 ≡ word 0 (rs1 w) 0 0 (sa w) 17
    movi2s_made = movi2s_sum 0 (rs1 w) (rs2 w) (rd_register w) (sa w) 17 (rd_register w * 2 ^ 11 + sa w * 2 ^ 6 + 17) (w / 1 % 1) (omega arith) (b5 (2 ^ 21)) (b5 (2 ^ 16)) (b5 (2 ^ 11)) (b5 (2 ^ 6)) (omega arith) refl not_there

    movs2i_word : function w ≡ 16 → {i : Instruction} → remade (row_for i) w ≡ word 0 0 0 (rd_register w) (sa w) 16 → Left i
    movs2i_word q k =
        let v = word 0 0 0 (rd_register w) (sa w) 16 in
        let f16 : 16 < 64 = omega arith in
        record {
          is = v;
          made_so = k;
          reads = same_zero w v e (word_opcode 0 0 0 (rd_register w) (sa w) 16 zero32 zero32 (b5 (2 ^ 11)) (b5 (2 ^ 6)) f16)
              (same_movs2i w v q (word_function 0 0 0 (rd_register w) (sa w) 16 zero32 zero32 (b5 (2 ^ 11)) (b5 (2 ^ 6)) f16)
              (word_rd 0 0 0 (rd_register w) (sa w) 16 zero32 zero32 (b5 (2 ^ 11)) (b5 (2 ^ 6)) f16) (word_sa 0 0 0 (rd_register w) (sa w) 16 zero32 zero32 (b5 (2 ^ 11)) (b5 (2 ^ 6)) f16));
          less = omega (arith, zero_parts);
        }

    movi2s_word : function w ≡ 17 → {i : Instruction} → remade (row_for i) w ≡ word 0 (rs1 w) 0 0 (sa w) 17 → Left i
    movi2s_word q k =
        let v = word 0 (rs1 w) 0 0 (sa w) 17 in
        let f17 : 17 < 64 = omega arith in
        record {
          is = v;
          made_so = k;
          reads = same_zero w v e (word_opcode 0 (rs1 w) 0 0 (sa w) 17 (b5 (2 ^ 21)) zero32 zero32 (b5 (2 ^ 6)) f17)
              (same_movi2s w v q (word_function 0 (rs1 w) 0 0 (sa w) 17 (b5 (2 ^ 21)) zero32 zero32 (b5 (2 ^ 6)) f17)
              (word_rs1 0 (rs1 w) 0 0 (sa w) 17 (b5 (2 ^ 21)) zero32 zero32 (b5 (2 ^ 6)) f17) (word_sa 0 (rs1 w) 0 0 (sa w) 17 (b5 (2 ^ 21)) zero32 zero32 (b5 (2 ^ 6)) f17));
          less = omega (arith, zero_parts);
        }

  or_again : (b : Bool) {x y : Instruction} → (b ≡ true → Again w x) → Again w y → Again w (when b then x else y)
  or_again true f g = f refl
  or_again false f g = g

  -- eight tests by one row each: the code is 40 and more
  tests_again : opcode w ≡ 0 → leb 40 (function w) && leb (function w) 47 ≡ true → (40 + (function w - 40) ≡ function w) × (function w ≡ 40 + (function w - 40)) × (40 ≤ function w)
  tests_again z e = let l = leb-true 40 (function w) (and_left (leb 40 (function w)) (leb (function w) 47) e) in (omega arith, omega arith, l)

  registers_again : opcode w ≡ 0 → Again w (register_type w)
  unfolding register_type row_for register_row remade made bare_of operand_at
  registers_again z =
      let f = function w in
      or_again (eqb f 32) (λ e. left (register_word z 32 (eqb-true f 32 e) (omega arith) (omega arith) (register_made z 32 (eqb-true f 32 e))))
      (or_again (eqb f 34) (λ e. left (register_word z 34 (eqb-true f 34 e) (omega arith) (omega arith) (register_made z 34 (eqb-true f 34 e))))
      (or_again (eqb f 36) (λ e. left (register_word z 36 (eqb-true f 36 e) (omega arith) (omega arith) (register_made z 36 (eqb-true f 36 e))))
      (or_again (eqb f 37) (λ e. left (register_word z 37 (eqb-true f 37 e) (omega arith) (omega arith) (register_made z 37 (eqb-true f 37 e))))
      (or_again (eqb f 38) (λ e. left (register_word z 38 (eqb-true f 38 e) (omega arith) (omega arith) (register_made z 38 (eqb-true f 38 e))))
      (or_again (leb 40 f && leb f 47) (λ e. let q = tests_again z e in let l : 40 ≤ f = q.2 in left (register_word z (40 + (f - 40)) q.1 (omega arith) (omega arith) (register_made z (40 + (f - 40)) q.1)))
      (or_again (eqb f 16) (λ e. or_again (leb (sa w) 11) (λ _. left (movs2i_word z (eqb-true f 16 e) (movs2i_made z))) ill)
      (or_again (eqb f 17) (λ e. or_again (leb (sa w) 11) (λ _. left (movi2s_word z (eqb-true f 17 e) (movi2s_made z))) ill)
      ill)))))))

  parts_again : Again w (part_type w)
  unfolding part_type row_for remade made bare_of operand_at
  parts_again =
      let o = opcode w in
      or_again (eqb o 32) (λ e. left (whole_left (short_all 32 (eqb-true o 32 e))))
      (or_again (eqb o 33) (λ e. left (whole_left (short_all 33 (eqb-true o 33 e))))
      (or_again (eqb o 36) (λ e. left (whole_left (short_all 36 (eqb-true o 36 e))))
      (or_again (eqb o 37) (λ e. left (whole_left (short_all 37 (eqb-true o 37 e))))
      (or_again (eqb o 40) (λ e. left (whole_left (short_all 40 (eqb-true o 40 e))))
      (or_again (eqb o 41) (λ e. left (whole_left (short_all 41 (eqb-true o 41 e))))
      ill)))))

  again : Again w (instruction_of w)
  unfolding instruction_of row_for immediate_row remade made bare_of operand_at
  again =
      let o = opcode w in
      or_again (eqb o 35) (λ e. left (whole_left (short_all 35 (eqb-true o 35 e))))
      (or_again (eqb o 43) (λ e. left (whole_left (short_all 43 (eqb-true o 43 e))))
      (or_again (eqb o 8) (λ e. left (whole_left (short_all 8 (eqb-true o 8 e))))
      (or_again (eqb o 10) (λ e. left (whole_left (short_all 10 (eqb-true o 10 e))))
      (or_again (eqb o 12) (λ e. left (whole_left (short_all 12 (eqb-true o 12 e))))
      (or_again (eqb o 13) (λ e. left (whole_left (short_all 13 (eqb-true o 13 e))))
      (or_again (eqb o 14) (λ e. left (whole_left (short_all 14 (eqb-true o 14 e))))
      (or_again (eqb o 15) (λ e. let q = eqb-true o 15 e in left (record { is = _; made_so = high_made 15 q; reads = lhgi_reads q; less = high_left 15 q }))
      (or_again (leb 24 o && leb o 31) (λ e. let l = leb-true 24 o (and_left (leb 24 o) (leb o 31) e) in left (whole_left (short_all (24 + (o - 24)) (omega arith))))
      (or_again (eqb o 4) (λ e. let q = eqb-true o 4 e in let r = branch_reads 4 q in left (record { is = _; made_so = branch_made 4 q; reads = same_beqz w _ q r.0 r.1 r.2; less = branch_left 4 q }))
      (or_again (eqb o 5) (λ e. let q = eqb-true o 5 e in let r = branch_reads 5 q in left (record { is = _; made_so = branch_made 5 q; reads = same_bnez w _ q r.0 r.1 r.2; less = branch_left 5 q }))
      (or_again (eqb o 22) (λ e. let q = eqb-true o 22 e in let r = jump_reads 22 q in left (record { is = _; made_so = jump_made 22 q; reads = same_jr w _ q r.0 r.1; less = jump_left 22 q }))
      (or_again (eqb o 23) (λ e. let q = eqb-true o 23 e in let r = jump_reads 23 q in left (record { is = _; made_so = jump_made 23 q; reads = same_jalr w _ q r.0 r.1; less = jump_left 23 q }))
      (or_again (eqb o 2) (λ e. left (whole_left (long_all 2 (eqb-true o 2 e))))
      (or_again (eqb o 3) (λ e. left (whole_left (long_all 3 (eqb-true o 3 e))))
      (or_again (eqb o 62) (λ e. left (whole_left (long_all 62 (eqb-true o 62 e))))
      (or_again (eqb o 63) (λ e. let q = eqb-true o 63 e in left (record { is = _; made_so = return_made 63 q; reads = same_rfe w (word 63 0 0 0 0 0) q refl; less = return_left 63 q }))
      (or_again (eqb o 0) (λ e. registers_again (eqb-true o 0 e))
      parts_again)))))))))))))))))

-- ---- the theorems

module _ (w : ℕ) (l : w < 2 ^ 32) (ok : legal (instruction_of w) ≡ true) where
  word_bound : word_of (instruction_of w) < 2 ^ 32
  unfolding word_of made
  word_bound = omega arith

  pub zeroed_least : word_of (instruction_of w) ≡ w → Least w
  zeroed_least e v k q =
      let u = (again v k).under in
      let z : remade (row_for (instruction_of v)) v ≡ w = sym (remade_is v) ∙ ap word_of q ∙ e in
      omega arith

  read_again : instruction_of (word_of (instruction_of w)) ≡ instruction_of w
  read_again = rw (remade_is w) ((again w l).same ok)

  least_zeroed : Least w → word_of (instruction_of w) ≡ w
  least_zeroed f =
      let u = (again w l).under in
      let z = remade_is w in
      let k = f (word_of (instruction_of w)) word_bound read_again in
      omega arith

-- THEOREM: a legal word whose ignored fields are 0 is written as the instruction that it is
pub legal_line : (w : ℕ) → w < 2 ^ 32 → legal (instruction_of w) ≡ true → Least w → line_of w ≡ text_of (instruction_of w)
legal_line w l e f = named_line w l e (least_zeroed w l e f)

-- THEOREM: any other word is written as a number
pub other_line : (w : ℕ) → w < 2 ^ 32 → (legal (instruction_of w) ≡ true → Least w → ⊥) → line_of w ≡ ascii "word " ++ decimal w
other_line w l n = word_line w l (λ e q. n e (zeroed_least w l e q))

-- THEOREM: and the word of an instruction, its ignored fields 0, is that instruction again
pub word_again : (w : ℕ) → w < 2 ^ 32 → legal (instruction_of w) ≡ true → instruction_of (word_of (instruction_of w)) ≡ instruction_of w
word_again w l e = read_again w l e
