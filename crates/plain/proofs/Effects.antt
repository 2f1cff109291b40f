-- What a word asks for, by its opcode or its function: the laws that the arms of `act` and of `register_type` cite.
use Rattle.std.proofs.Common.{◌≡◌, ℕ, ◌-◌, ◌*◌, ◌%◌, ◌<◌, ◌≤◌, Bool, true, false, ◌&&◌, eqb, List, get_or, sym, refl, ap, ◌∙◌, arith, ne_eqb, le-leb}
use Rattle.dlx.specs.Choice.{when◌then◌else◌}
use Rattle.dlx.specs.Words.{plus, opcode, rs1, rs2, rd_immediate, rd_register, sa, function, extended}
use Rattle.dlx.specs.Processor.{user, no_timer, special_of, behind}
use Rattle.dlx.specs.Instructions.{instruction_of, register_type, part_type}
use Rattle.dlx.specs.Execute.{value_of, overflows_of, operated, written, loads, stores, effect_of}
use Rattle.dlx.specs.declared.partition.Table.{Table}
use Rattle.dlx.specs.declared.partition.Timer.{Timer}
use Rattle.dlx.specs.declared.partition.Processor.{Processor}
use Rattle.dlx.specs.declared.instruction.Operation.{Operation}
use Rattle.dlx.specs.declared.instruction.Operation.TheVariants.{Add, Sub, And, Or, Xor, Test}
use Rattle.dlx.specs.declared.instruction.Instruction.{Instruction}
use Rattle.dlx.specs.declared.instruction.Instruction.TheVariants.{LoadBy, StoreBy, Immediate, Lhgi, Beqz, Bnez, Jr, Jalr, J, Jal, Register, Movs2i}
use Rattle.dlx.specs.declared.execute.Change.TheVariants.{Plain}
use Rattle.dlx.specs.declared.execute.Effect.TheVariants.{Done}
use Rattle.dlx.proofs.Tests.{by_eq}
use Rattle.plain.specs.Plain.{pair_of}

and_false : (b : Bool) → (b && false) ≡ false
and_false true = refl
and_false false = refl

calm : (op : Operation) (d x y sr next : ℕ) → overflows_of op x y ≡ false → operated op d x y sr next ≡ Done (Plain d (value_of op x y) next)
unfolding operated
calm op d x y sr next h = simp (h, and_false)

pub unwritten : (r : List ℕ) → r ≡ written r 0 0
unfolding written
unwritten r = refl

-- ---- opcode 0, by function

module _ (w : ℕ) where
  abbrev register_of : Operation → Instruction
  register_of op = Register op (rd_register w) (rs1 w) (rs2 w)

  pub f_32 : function w ≡ 32 → register_type w ≡ register_of Add
  unfolding register_type
  f_32 h = simp h

  pub f_34 : function w ≡ 34 → register_type w ≡ register_of Sub
  unfolding register_type
  f_34 h = simp h

  pub f_36 : function w ≡ 36 → register_type w ≡ register_of And
  unfolding register_type
  f_36 h = simp h

  pub f_37 : function w ≡ 37 → register_type w ≡ register_of Or
  unfolding register_type
  f_37 h = simp h

  pub f_38 : function w ≡ 38 → register_type w ≡ register_of Xor
  unfolding register_type
  f_38 h = simp h

  pub f_test : 40 ≤ function w → function w < 48 → register_type w ≡ register_of (Test (function w - 40))
  unfolding register_type
  f_test l h =
      simp (ne_eqb (function w) 32 (λ e. omega arith), ne_eqb (function w) 34 (λ e. omega arith), ne_eqb (function w) 36 (λ e. omega arith), ne_eqb (function w) 37 (λ e. omega arith), ne_eqb (function w) 38 (λ e. omega arith), le-leb 40 (function w) l, le-leb (function w) 47 (omega arith))

  f_special : function w ≡ 16 → sa w < 10 → register_type w ≡ Movs2i (rd_register w) (sa w)
  unfolding register_type
  f_special h l = simp (h, le-leb (sa w) 11 (omega arith))

  module _ (t : Table) (regs : List ℕ) (d a b : ℕ) (q : d ≡ rd_register w) (x : a ≡ get_or regs (rs1 w) 0) (y : b ≡ get_or regs (rs2 w) 0) where
    pub register_asks : (op : Operation) (v : ℕ) → register_type w ≡ register_of op → (c : Processor) (k : Timer) → ((next : ℕ) → operated op d a b c.sr next ≡ Done (Plain d v next)) → effect_of c t k regs (register_type w) ≡ Done (Plain d v (behind c))
    unfolding effect_of
    register_asks op v e c k f = simp (e, ← q, ← x, ← y, f (behind c))

    pub register_calm : (op : Operation) (v : ℕ) → register_type w ≡ register_of op → overflows_of op a b ≡ false → v ≡ value_of op a b → (c : Processor) (k : Timer) → effect_of c t k regs (register_type w) ≡ Done (Plain d v (behind c))
    register_calm op v e h z c k = register_asks op v e c k (λ next. calm op d a b c.sr next h ∙ ap (λ (j : ℕ). Done (Plain d j next)) (sym z))

five : (n : ℕ) → (n ≡ 0 → ⊥) → (n ≡ 1 → ⊥) → (n ≡ 2 → ⊥) → (n ≡ 3 → ⊥) → (n ≡ 4 → ⊥) → 5 ≤ n
five n a b c d e = omega arith

nine : (n : ℕ) → n < 10 → 5 ≤ n → (n ≡ 5 → ⊥) → (n ≡ 6 → ⊥) → (n ≡ 7 → ⊥) → (n ≡ 8 → ⊥) → n ≡ 9
nine n l h a b c d = omega arith

-- a special register but the timer's
special_same : (p : Processor) (t : Table) (k : Timer) (dpc pc n : ℕ) → n < 10 → special_of (pair_of p dpc pc) t k n ≡ special_of p t no_timer n
unfolding special_of
special_same p t k dpc pc n l =
    by_eq n 0 (λ q. simp q) λ n0.
    by_eq n 1 (λ q. simp q) λ n1.
    by_eq n 2 (λ q. simp q) λ n2.
    by_eq n 3 (λ q. simp q) λ n3.
    by_eq n 4 (λ q. simp q) λ n4.
    by_eq n 5 (λ q. simp q) λ n5.
    by_eq n 6 (λ q. simp q) λ n6.
    by_eq n 7 (λ q. simp q) λ n7.
    by_eq n 8 (λ q. simp q) λ n8.
    let e = nine n l (five n n0 n1 n2 n3 n4) n5 n6 n7 n8 in simp e

pub special_asks : (w : ℕ) (p : Processor) (t : Table) (regs : List ℕ) (d v : ℕ) → d ≡ rd_register w → function w ≡ 16 → user p ≡ false → sa w < 10 → v ≡ special_of p t no_timer (sa w) → (dpc pc : ℕ) (k : Timer) → effect_of (pair_of p dpc pc) t k regs (register_type w) ≡ Done (Plain d v (behind (pair_of p dpc pc)))
unfolding effect_of
special_asks w p t regs d v q h u l z dpc pc k = simp (f_special w h l, u, special_same p t k dpc pc (sa w) l, ← z, ← q)

-- ---- the others, by opcode

module _ (w : ℕ) where
  abbrev immediate_of : Operation → Instruction
  immediate_of op = Immediate op (rd_immediate w) (rs1 w) (extended 16 w)

  abbrev load_of : ℕ → Instruction
  load_of o = LoadBy o (rs1 w) (extended 16 w) (rd_immediate w)

  abbrev store_of : ℕ → Instruction
  store_of o = StoreBy o (rs1 w) (extended 16 w) (rd_immediate w)

  pub o_35 : opcode w ≡ 35 → instruction_of w ≡ load_of 35
  unfolding instruction_of
  o_35 h = simp h

  pub o_43 : opcode w ≡ 43 → instruction_of w ≡ store_of 43
  unfolding instruction_of
  o_43 h = simp h

  pub o_8 : opcode w ≡ 8 → instruction_of w ≡ immediate_of Add
  unfolding instruction_of
  o_8 h = simp h

  pub o_10 : opcode w ≡ 10 → instruction_of w ≡ immediate_of Sub
  unfolding instruction_of
  o_10 h = simp h

  pub o_12 : opcode w ≡ 12 → instruction_of w ≡ immediate_of And
  unfolding instruction_of
  o_12 h = simp h

  pub o_13 : opcode w ≡ 13 → instruction_of w ≡ immediate_of Or
  unfolding instruction_of
  o_13 h = simp h

  pub o_14 : opcode w ≡ 14 → instruction_of w ≡ immediate_of Xor
  unfolding instruction_of
  o_14 h = simp h

  o_15 : opcode w ≡ 15 → instruction_of w ≡ Lhgi (rd_immediate w) (extended 16 w)
  unfolding instruction_of
  o_15 h = simp h

  o_4 : opcode w ≡ 4 → instruction_of w ≡ Beqz (rs1 w) (extended 16 w)
  unfolding instruction_of
  o_4 h = simp h

  o_5 : opcode w ≡ 5 → instruction_of w ≡ Bnez (rs1 w) (extended 16 w)
  unfolding instruction_of
  o_5 h = simp h

  o_22 : opcode w ≡ 22 → instruction_of w ≡ Jr (rs1 w)
  unfolding instruction_of
  o_22 h = simp h

  o_23 : opcode w ≡ 23 → instruction_of w ≡ Jalr (rs1 w)
  unfolding instruction_of
  o_23 h = simp h

  o_2 : opcode w ≡ 2 → instruction_of w ≡ J (extended 26 w)
  unfolding instruction_of
  o_2 h = simp h

  o_3 : opcode w ≡ 3 → instruction_of w ≡ Jal (extended 26 w)
  unfolding instruction_of
  o_3 h = simp h

  pub o_0 : opcode w ≡ 0 → instruction_of w ≡ register_type w
  unfolding instruction_of
  o_0 h = simp h

  pub o_32 : opcode w ≡ 32 → instruction_of w ≡ load_of 32
  unfolding instruction_of part_type
  o_32 h = simp h

  pub o_33 : opcode w ≡ 33 → instruction_of w ≡ load_of 33
  unfolding instruction_of part_type
  o_33 h = simp h

  pub o_36 : opcode w ≡ 36 → instruction_of w ≡ load_of 36
  unfolding instruction_of part_type
  o_36 h = simp h

  pub o_37 : opcode w ≡ 37 → instruction_of w ≡ load_of 37
  unfolding instruction_of part_type
  o_37 h = simp h

  pub o_40 : opcode w ≡ 40 → instruction_of w ≡ store_of 40
  unfolding instruction_of part_type
  o_40 h = simp h

  pub o_41 : opcode w ≡ 41 → instruction_of w ≡ store_of 41
  unfolding instruction_of part_type
  o_41 h = simp h

  pub o_test : 24 ≤ opcode w → opcode w < 32 → instruction_of w ≡ immediate_of (Test (opcode w - 24))
  unfolding instruction_of
  o_test l h =
      simp (ne_eqb (opcode w) 35 (λ e. omega arith), ne_eqb (opcode w) 43 (λ e. omega arith), ne_eqb (opcode w) 8 (λ e. omega arith), ne_eqb (opcode w) 10 (λ e. omega arith), ne_eqb (opcode w) 12 (λ e. omega arith), ne_eqb (opcode w) 13 (λ e. omega arith), ne_eqb (opcode w) 14 (λ e. omega arith), ne_eqb (opcode w) 15 (λ e. omega arith), le-leb 24 (opcode w) l, le-leb (opcode w) 31 (omega arith))

  module _ (t : Table) (regs : List ℕ) (d r i : ℕ) (q : d ≡ rd_immediate w) (x : r ≡ rs1 w) (y : i ≡ extended 16 w) where
    pub immediate_asks : (op : Operation) (v : ℕ) → instruction_of w ≡ immediate_of op → (c : Processor) (k : Timer) → ((next : ℕ) → operated op d (get_or regs r 0) i c.sr next ≡ Done (Plain d v next)) → effect_of c t k regs (instruction_of w) ≡ Done (Plain d v (behind c))
    unfolding effect_of
    immediate_asks op v e c k f = simp (e, ← q, ← x, ← y, f (behind c))

    pub immediate_calm : (op : Operation) (v : ℕ) → instruction_of w ≡ immediate_of op → overflows_of op (get_or regs r 0) i ≡ false → v ≡ value_of op (get_or regs r 0) i → (c : Processor) (k : Timer) → effect_of c t k regs (instruction_of w) ≡ Done (Plain d v (behind c))
    immediate_calm op v e h z c k = immediate_asks op v e c k (λ next. calm op d (get_or regs r 0) i c.sr next h ∙ ap (λ (j : ℕ). Done (Plain d j next)) (sym z))

    pub load_asks : (o : ℕ) → instruction_of w ≡ load_of o → (c : Processor) (k : Timer) → loads o d (get_or regs r 0) i ≡ effect_of c t k regs (instruction_of w)
    unfolding effect_of
    load_asks o e c k = simp (e, ← q, ← x, ← y)

    pub store_asks : (o : ℕ) → instruction_of w ≡ store_of o → (c : Processor) (k : Timer) → stores o (get_or regs d 0) (get_or regs r 0) i ≡ effect_of c t k regs (instruction_of w)
    unfolding effect_of
    store_asks o e c k = simp (e, ← q, ← x, ← y)

    pub lhgi_asks : opcode w ≡ 15 → (c : Processor) (k : Timer) → effect_of c t k regs (instruction_of w) ≡ Done (Plain d (i % 65536 * 65536) (behind c))
    unfolding effect_of
    lhgi_asks h c k = simp (o_15 h, ← q, ← y)

    pub beqz_asks : opcode w ≡ 4 → (c : Processor) (k : Timer) → effect_of c t k regs (instruction_of w) ≡ Done (Plain 0 0 (when eqb (get_or regs r 0) 0 then plus c.pc i else behind c))
    unfolding effect_of
    beqz_asks h c k = simp (o_4 h, ← x, ← y)

    pub bnez_asks : opcode w ≡ 5 → (c : Processor) (k : Timer) → effect_of c t k regs (instruction_of w) ≡ Done (Plain 0 0 (when eqb (get_or regs r 0) 0 then behind c else plus c.pc i))
    unfolding effect_of
    bnez_asks h c k = simp (o_5 h, ← x, ← y)

    pub jr_asks : opcode w ≡ 22 → (c : Processor) (k : Timer) → effect_of c t k regs (instruction_of w) ≡ Done (Plain 0 0 (get_or regs r 0))
    unfolding effect_of
    jr_asks h c k = simp (o_22 h, ← x)

    pub jalr_asks : opcode w ≡ 23 → (c : Processor) (k : Timer) → effect_of c t k regs (instruction_of w) ≡ Done (Plain 31 (behind c) (get_or regs r 0))
    unfolding effect_of
    jalr_asks h c k = simp (o_23 h, ← x)

  pub j_asks : (t : Table) (regs : List ℕ) (far : ℕ) → far ≡ extended 26 w → opcode w ≡ 2 → (c : Processor) (k : Timer) → effect_of c t k regs (instruction_of w) ≡ Done (Plain 0 0 (plus c.pc far))
  unfolding effect_of
  j_asks t regs far y h c k = simp (o_2 h, ← y)

  pub jal_asks : (t : Table) (regs : List ℕ) (far : ℕ) → far ≡ extended 26 w → opcode w ≡ 3 → (c : Processor) (k : Timer) → effect_of c t k regs (instruction_of w) ≡ Done (Plain 31 (behind c) (plus c.pc far))
  unfolding effect_of
  jal_asks t regs far y h c k = simp (o_3 h, ← y)
