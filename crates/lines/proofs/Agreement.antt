-- The table is that of `dlx`: every word that it reads as an instruction, and whose ignored fields are 0, has the row of that instruction; no other word has one.
use mathlib.Core.Path.{◌≡◌, refl, sym, ap, ◌∙◌}
use mathlib.Core.Bool.{Bool, true, false, not, ◌&&◌, ◌||◌}
use mathlib.Core.List.{List, [], ◌∷◌, ◌++◌}
use lib.ListN.{get_or}
use Prim.Native.Nat.{ℕ, ◌+◌, ◌-◌, ◌*◌, ◌/◌, ◌%◌, ◌^◌, ◌<◌}
use native.Mathlib.Nat.{mod-mod, mod-eq_of_lt, add-mul-mod_self_left}
use native.Mathlib.Omega.{arith}
use borrow.Author.Tests.{eqb-true, eqb-false, eq-eqb, le-leb, lt-leb, lt-ltb}
use lib.Dec.{eqb, leb, ltb, leb-suc-suc}
use Rattle.dlx.specs.Choice.{when◌then◌else◌}
use Rattle.dlx.specs.Words.{opcode, function, sa, extended, extended_by, rd_immediate, rs1 as rs1_of}
use Rattle.dlx.specs.Instructions.{instruction_of, register_type, part_type}
use Rattle.dlx.specs.declared.instruction.Instruction.{Instruction}
use Rattle.dlx.specs.declared.instruction.Instruction.TheVariants.{LoadBy, StoreBy, Immediate, Lhgi, Beqz, Bnez, Jr, Jalr, J, Jal, Trap, Rfe}
use Rattle.dlx.specs.declared.instruction.Operation.{Operation}
use Rattle.dlx.specs.declared.instruction.Operation.TheVariants.{Add, Sub, And, Or, Xor, Test}
use Rattle.dlx.proofs.Tests.{by_test, and_left}
use Rattle.decimal.specs.Decimals.{decimal}
use Rattle.decimal.specs.Texts.{same, ascii}
use Rattle.decimal.proofs.Same.{and_right, same_eq}
use Rattle.lines.specs.declared.Kind.{Kind}
use Rattle.lines.specs.declared.Kind.TheVariants.{Unused, Rs1, Rs2, Rd, RdOfR, Special, Short, High, Long, Whole}
use Rattle.lines.specs.Table.{operand_at, Row, named, unnamed, row_at}
use Rattle.lines.specs.Lines.{written, field_of, operand_text, text_by, code_of, bare_of, made, remade, within, fits, place_from, column, coded, place_of, line_of}
use Rattle.lines.specs.Called.{legal, test_name, access_name, immediate_row, register_row, row_for, values_in, word_of, text_of}
use Rattle.lines.proofs.Tables.{below, below_at}
use Rattle.lines.proofs.Lines.{field_below, fits_remade}

-- ---- the row of an instruction goes by its opcode, its function where that is 0, and whether its special number is below 12

record SameRow (i j : Instruction) : Type 0 where
  row : row_for i ≡ row_for j
  law : legal i ≡ legal j

leaf : {i j : Instruction} → row_for i ≡ row_for j → legal i ≡ legal j → SameRow i j
leaf e q = record { row = e; law = q }

both : (b : Bool) {x y x' y' : Instruction} → SameRow x x' → SameRow y y' → SameRow (when b then x else y) (when b then x' else y')
both true e q = e
both false e q = q

registers_alike : (w v : ℕ) → function w ≡ function v → leb (sa w) 11 ≡ leb (sa v) 11 → SameRow (register_type w) (register_type v)
unfolding register_type row_for legal
registers_alike w v e q =
    let f = function v in
    rw (e, q)
    (both (eqb f 32) (leaf refl refl)
    (both (eqb f 34) (leaf refl refl)
    (both (eqb f 36) (leaf refl refl)
    (both (eqb f 37) (leaf refl refl)
    (both (eqb f 38) (leaf refl refl)
    (both (leb 40 f && leb f 47) (leaf refl refl)
    (both (eqb f 16) (both (leb (sa v) 11) (leaf refl refl) (leaf refl refl))
    (both (eqb f 17) (both (leb (sa v) 11) (leaf refl refl) (leaf refl refl)) (leaf refl refl)))))))))

parts_alike : (w v : ℕ) → opcode w ≡ opcode v → SameRow (part_type w) (part_type v)
unfolding part_type row_for legal
parts_alike w v e =
    let o = opcode v in
    rw e
    (both (eqb o 32) (leaf refl refl)
    (both (eqb o 33) (leaf refl refl)
    (both (eqb o 36) (leaf refl refl)
    (both (eqb o 37) (leaf refl refl)
    (both (eqb o 40) (leaf refl refl)
    (both (eqb o 41) (leaf refl refl) (leaf refl refl)))))))

both_if : (b : Bool) {x y x' y' : Instruction} → (b ≡ true → SameRow x x') → SameRow y y' → SameRow (when b then x else y) (when b then x' else y')
both_if true e q = e refl
both_if false e q = q

instructions_alike : (w v : ℕ) → opcode w ≡ opcode v → (opcode v ≡ 0 → function w ≡ function v) → leb (sa w) 11 ≡ leb (sa v) 11 → SameRow (instruction_of w) (instruction_of v)
unfolding instruction_of row_for legal
instructions_alike w v e g q =
    let o = opcode v in
    let p = parts_alike w v e in
    rw e
    (both (eqb o 35) (leaf refl refl)
    (both (eqb o 43) (leaf refl refl)
    (both (eqb o 8) (leaf refl refl)
    (both (eqb o 10) (leaf refl refl)
    (both (eqb o 12) (leaf refl refl)
    (both (eqb o 13) (leaf refl refl)
    (both (eqb o 14) (leaf refl refl)
    (both (eqb o 15) (leaf refl refl)
    (both (leb 24 o && leb o 31) (leaf refl refl)
    (both (eqb o 4) (leaf refl refl)
    (both (eqb o 5) (leaf refl refl)
    (both (eqb o 22) (leaf refl refl)
    (both (eqb o 23) (leaf refl refl)
    (both (eqb o 2) (leaf refl refl)
    (both (eqb o 3) (leaf refl refl)
    (both (eqb o 62) (leaf refl refl)
    (both (eqb o 63) (leaf refl refl)
    (both_if (eqb o 0) (λ z. registers_alike w v (g (eqb-true o 0 z)) q) p))))))))))))))))))

-- ---- a word for each code, with the special number 0 or 12

unfoldable sample : ℕ → Bool → ℕ
sample c b = bare_of c + (when b then 0 else 768)

high_sa : (o k : ℕ) → k < 32 → (o * 64 / 64 * 2 ^ 26 + o * 64 % 64 + k * 64) / 2 ^ 6 % 32 ≡ k
high_sa o k l =
    let e : (o * 64 / 64 * 2 ^ 26 + o * 64 % 64 + k * 64) / 2 ^ 6 ≡ k + 32 * (o * 2 ^ 15) = omega arith in
    rw e (add-mul-mod_self_left k 32 (o * 2 ^ 15) ∙ mod-eq_of_lt l)

module _ (w : ℕ) where
  lawful : Bool
  lawful = leb (sa w) 11

  sampled : ℕ
  sampled = sample (code_of w) lawful

  sampled_parts : (opcode w ≡ opcode sampled) × (opcode sampled ≡ 0 → function w ≡ function sampled) × (leb (sa w) 11 ≡ leb (sa sampled) 11)
  unfolding sampled sample code_of bare_of lawful
  sampled_parts =
      by_test (eqb (opcode w) 0)
      (λ q.
      let z = eqb-true (opcode w) 0 q in
      let c = w % 64 / 64 * 2 ^ 26 + w % 64 % 64 in
      by_test (leb (sa w) 11)
      (λ p. rw (q, p) (omega arith, (λ _. omega arith), sym (le-leb ((c + 0) / 2 ^ 6 % 32) 11 (omega arith))))
      (λ p. rw (q, p) (omega arith, (λ _. omega arith), sym (lt-leb ((c + 768) / 2 ^ 6 % 32) 11 (omega arith)))))
      (λ q.
      let z = eqb-false (opcode w) 0 q in
      let c = w / 2 ^ 26 * 64 / 64 * 2 ^ 26 + w / 2 ^ 26 * 64 % 64 in
      by_test (leb (sa w) 11)
      (λ p. rw (q, p) (omega arith, (λ n. absurd (omega arith)), sym (le-leb ((c + 0) / 2 ^ 6 % 32) 11 (omega (arith, high_sa (w / 2 ^ 26) 0 (omega arith))))))
      (λ p. rw (q, p) (omega arith, (λ n. absurd (omega arith)), sym (lt-leb ((c + 768) / 2 ^ 6 % 32) 11 (omega (arith, high_sa (w / 2 ^ 26) 12 (omega arith)))))))

  sampled_alike : SameRow (instruction_of w) (instruction_of sampled)
  sampled_alike = let e = sampled_parts in instructions_alike w sampled e.0 e.1 e.2

-- ---- the test over all codes

-- the kinds by number
kind_number : Kind → ℕ
kind_number Unused = 0
kind_number Rs1 = 1
kind_number Rs2 = 2
kind_number Rd = 3
kind_number RdOfR = 4
kind_number Special = 5
kind_number Short = 6
kind_number High = 7
kind_number Long = 8
kind_number Whole = 9

kind_at : ℕ → Kind
kind_at n = get_or (Unused ∷ Rs1 ∷ Rs2 ∷ Rd ∷ RdOfR ∷ Special ∷ Short ∷ High ∷ Long ∷ Whole ∷ []) n Unused

kind_back : (k : Kind) → kind_at (kind_number k) ≡ k
unfolding kind_number kind_at
kind_back Unused = refl
kind_back Rs1 = refl
kind_back Rs2 = refl
kind_back Rd = refl
kind_back RdOfR = refl
kind_back Special = refl
kind_back Short = refl
kind_back High = refl
kind_back Long = refl
kind_back Whole = refl

same_kind : Kind → Kind → Bool
same_kind x y = eqb (kind_number x) (kind_number y)

kinds_equal : (x y : Kind) → same_kind x y ≡ true → x ≡ y
unfolding same_kind
kinds_equal x y e = sym (kind_back x) ∙ ap kind_at (eqb-true (kind_number x) (kind_number y) e) ∙ kind_back y

same_row : Row → Row → Bool
same_row r t = same r.name t.name && eqb r.code t.code && same_kind r.first t.first && same_kind r.second t.second && same_kind r.third t.third

abbrev built : List ℕ → ℕ → Kind → Kind → Kind → Row
built n c x y z = record { name = n; code = c; first = x; second = y; third = z }

joined : {n m : List ℕ} {c c' : ℕ} {x x' y y' z z' : Kind} → n ≡ m → c ≡ c' → x ≡ x' → y ≡ y' → z ≡ z' → built n c x y z ≡ built m c' x' y' z'
joined n c x y z = rw (n, c, x, y, z)

rows_equal : (r t : Row) → same_row r t ≡ true → r ≡ t
unfolding same_row
rows_equal r t e =
    let e3 = and_left _ (same_kind r.third t.third) e in
    let e2 = and_left _ (same_kind r.second t.second) e3 in
    let e1 = and_left _ (same_kind r.first t.first) e2 in
    let n : r.name ≡ t.name = same_eq r.name t.name (and_left (same r.name t.name) (eqb r.code t.code) e1) in
    let c : r.code ≡ t.code = eqb-true r.code t.code (and_right (same r.name t.name) (eqb r.code t.code) e1) in
    let x : r.first ≡ t.first = kinds_equal r.first t.first (and_right (same r.name t.name && eqb r.code t.code) _ e2) in
    let y : r.second ≡ t.second = kinds_equal r.second t.second (and_right (same r.name t.name && eqb r.code t.code && same_kind r.first t.first) _ e3) in
    let z : r.third ≡ t.third =
    kinds_equal r.third t.third (and_right (same r.name t.name && eqb r.code t.code && same_kind r.first t.first && same_kind r.second t.second) _ e)
    in
    joined n c x y z

-- a row has no special register
ordinary : Row → Bool
ordinary r = not (same_kind r.first Special) && not (same_kind r.second Special) && not (same_kind r.third Special)

-- the row of a code with a special number below 12, or of one above
checked : ℕ → Bool → Bool
checked c b =
    let i = instruction_of (sample c b) in
    let r = row_at (coded c) in
    elim (legal i) [
      | true ↦ same_row (row_for i) r && (b || ordinary r)
      | false ↦ eqb (coded c) 45 || not (b || ordinary r)
    ]

tested : ℕ → Bool
tested n = checked n true && checked n false && checked (n * 64) true && checked (n * 64) false

tested_all : below tested 64 ≡ true
unfolding tested checked ordinary same_row same_kind kind_number sample bare_of coded column place_from row_at named unnamed ascii same instruction_of register_type part_type extended_by legal row_for immediate_row register_row test_name access_name
tested_all = refl

code_checked : (w : ℕ) (b : Bool) → w < 2 ^ 32 → checked (code_of w) b ≡ true
unfolding code_of tested
code_checked w b l =
    by_test (eqb (opcode w) 0)
    (λ q. rw q (low b (w % 64) (below_at tested 64 tested_all (w % 64) (omega arith))))
    (λ q. rw q (high_one b (w / 2 ^ 26) (below_at tested 64 tested_all (w / 2 ^ 26) (omega arith))))
  where
    low : (b : Bool) (n : ℕ) → tested n ≡ true → checked n b ≡ true
    low true n e = and_left (checked n true) (checked n false) (and_left _ (checked (n * 64) true) (and_left _ (checked (n * 64) false) e))
    low false n e = and_right (checked n true) (checked n false) (and_left _ (checked (n * 64) true) (and_left _ (checked (n * 64) false) e))

    high_one : (b : Bool) (n : ℕ) → tested n ≡ true → checked (n * 64) b ≡ true
    high_one true n e = and_right (checked n true && checked n false) _ (and_left _ (checked (n * 64) false) e)
    high_one false n e = and_right (checked n true && checked n false && checked (n * 64) true) _ e

-- ---- the values of an instruction are the fields of its word

record Fields (w : ℕ) (i : Instruction) : Type 0 where
  first : (values_in i).first % (operand_at (row_for i).first).size ≡ field_of (operand_at (row_for i).first) w
  second : (values_in i).second % (operand_at (row_for i).second).size ≡ field_of (operand_at (row_for i).second) w
  third : (values_in i).third % (operand_at (row_for i).third).size ≡ field_of (operand_at (row_for i).third) w

module _ (w : ℕ) where
  at : (i : Instruction)
      → (values_in i).first % (operand_at (row_for i).first).size ≡ field_of (operand_at (row_for i).first) w
      → (values_in i).second % (operand_at (row_for i).second).size ≡ field_of (operand_at (row_for i).second) w
      → (values_in i).third % (operand_at (row_for i).third).size ≡ field_of (operand_at (row_for i).third) w → Fields w i
  at i x y z = record { first = x; second = y; third = z }

  -- fields that are not there, registers, immediates
  gone : 0 % 1 ≡ w / 1 % 1
  gone = omega arith

  five : (k : ℕ) → w / k % 32 % 32 ≡ w / k % 32
  five k = mod-mod (w / k) 32

  sixteen : extended 16 w % 2 ^ 16 ≡ w / 1 % 2 ^ 16
  unfolding extended_by
  sixteen = by_test (ltb (w % (2 ^ 15 * 2)) (2 ^ 15)) (λ q. rw q (omega arith)) (λ q. rw q (omega arith))

  twenty_six : extended 26 w % 2 ^ 26 ≡ w / 1 % 2 ^ 26
  unfolding extended_by
  twenty_six = by_test (ltb (w % (2 ^ 25 * 2)) (2 ^ 25)) (λ q. rw q (omega arith)) (λ q. rw q (omega arith))

  or_else : (b : Bool) {x y : Instruction} → Fields w x → Fields w y → Fields w (when b then x else y)
  or_else true e q = e
  or_else false e q = q

  registers_fields : Fields w (register_type w)
  unfolding register_type row_for values_in register_row operand_at
  registers_fields =
      let f = function w in
      or_else (eqb f 32) (at _ (five (2 ^ 11)) (five (2 ^ 21)) (five (2 ^ 16)))
      (or_else (eqb f 34) (at _ (five (2 ^ 11)) (five (2 ^ 21)) (five (2 ^ 16)))
      (or_else (eqb f 36) (at _ (five (2 ^ 11)) (five (2 ^ 21)) (five (2 ^ 16)))
      (or_else (eqb f 37) (at _ (five (2 ^ 11)) (five (2 ^ 21)) (five (2 ^ 16)))
      (or_else (eqb f 38) (at _ (five (2 ^ 11)) (five (2 ^ 21)) (five (2 ^ 16)))
      (or_else (leb 40 f && leb f 47) (at _ (five (2 ^ 11)) (five (2 ^ 21)) (five (2 ^ 16)))
      (or_else (eqb f 16) (or_else (leb (sa w) 11) (at _ gone (five (2 ^ 11)) (five (2 ^ 6))) (at _ gone gone gone))
      (or_else (eqb f 17) (or_else (leb (sa w) 11) (at _ gone (five (2 ^ 6)) (five (2 ^ 21))) (at _ gone gone gone)) (at _ gone gone gone))))))))

  parts_fields : Fields w (part_type w)
  unfolding part_type row_for values_in operand_at
  parts_fields =
      let o = opcode w in
      or_else (eqb o 32) (at _ (five (2 ^ 16)) (five (2 ^ 21)) sixteen)
      (or_else (eqb o 33) (at _ (five (2 ^ 16)) (five (2 ^ 21)) sixteen)
      (or_else (eqb o 36) (at _ (five (2 ^ 16)) (five (2 ^ 21)) sixteen)
      (or_else (eqb o 37) (at _ (five (2 ^ 16)) (five (2 ^ 21)) sixteen)
      (or_else (eqb o 40) (at _ (five (2 ^ 16)) (five (2 ^ 21)) sixteen)
      (or_else (eqb o 41) (at _ (five (2 ^ 16)) (five (2 ^ 21)) sixteen) (at _ gone gone gone))))))

  -- by the shape of the instruction
  of_load : (o : ℕ) → Fields w (LoadBy o (rs1_of w) (extended 16 w) (rd_immediate w))
  unfolding row_for values_in operand_at
  of_load o = at (LoadBy o (rs1_of w) (extended 16 w) (rd_immediate w)) (five (2 ^ 16)) (five (2 ^ 21)) sixteen

  of_store : (o : ℕ) → Fields w (StoreBy o (rs1_of w) (extended 16 w) (rd_immediate w))
  unfolding row_for values_in operand_at
  of_store o = at (StoreBy o (rs1_of w) (extended 16 w) (rd_immediate w)) (five (2 ^ 16)) (five (2 ^ 21)) sixteen

  of_immediate : (op : Operation) → Fields w (Immediate op (rd_immediate w) (rs1_of w) (extended 16 w))
  unfolding row_for values_in immediate_row operand_at
  of_immediate Add = at (Immediate Add (rd_immediate w) (rs1_of w) (extended 16 w)) (five (2 ^ 16)) (five (2 ^ 21)) sixteen
  of_immediate Sub = at (Immediate Sub (rd_immediate w) (rs1_of w) (extended 16 w)) (five (2 ^ 16)) (five (2 ^ 21)) sixteen
  of_immediate And = at (Immediate And (rd_immediate w) (rs1_of w) (extended 16 w)) (five (2 ^ 16)) (five (2 ^ 21)) sixteen
  of_immediate Or = at (Immediate Or (rd_immediate w) (rs1_of w) (extended 16 w)) (five (2 ^ 16)) (five (2 ^ 21)) sixteen
  of_immediate Xor = at (Immediate Xor (rd_immediate w) (rs1_of w) (extended 16 w)) (five (2 ^ 16)) (five (2 ^ 21)) sixteen
  of_immediate (Test k) = at (Immediate (Test k) (rd_immediate w) (rs1_of w) (extended 16 w)) (five (2 ^ 16)) (five (2 ^ 21)) sixteen

  of_lhgi : Fields w (Lhgi (rd_immediate w) (extended 16 w))
  unfolding row_for values_in operand_at
  of_lhgi = at (Lhgi (rd_immediate w) (extended 16 w)) gone (five (2 ^ 16)) sixteen

  of_beqz : Fields w (Beqz (rs1_of w) (extended 16 w))
  unfolding row_for values_in operand_at
  of_beqz = at (Beqz (rs1_of w) (extended 16 w)) gone (five (2 ^ 21)) sixteen

  of_bnez : Fields w (Bnez (rs1_of w) (extended 16 w))
  unfolding row_for values_in operand_at
  of_bnez = at (Bnez (rs1_of w) (extended 16 w)) gone (five (2 ^ 21)) sixteen

  of_jr : Fields w (Jr (rs1_of w))
  unfolding row_for values_in operand_at
  of_jr = at (Jr (rs1_of w)) gone gone (five (2 ^ 21))

  of_jalr : Fields w (Jalr (rs1_of w))
  unfolding row_for values_in operand_at
  of_jalr = at (Jalr (rs1_of w)) gone gone (five (2 ^ 21))

  of_j : Fields w (J (extended 26 w))
  unfolding row_for values_in operand_at
  of_j = at (J (extended 26 w)) gone gone twenty_six

  of_jal : Fields w (Jal (extended 26 w))
  unfolding row_for values_in operand_at
  of_jal = at (Jal (extended 26 w)) gone gone twenty_six

  of_trap : Fields w (Trap (extended 26 w))
  unfolding row_for values_in operand_at
  of_trap = at (Trap (extended 26 w)) gone gone twenty_six

  of_rfe : Fields w Rfe
  unfolding row_for values_in operand_at
  of_rfe = at Rfe gone gone gone

  fields : Fields w (instruction_of w)
  unfolding instruction_of
  fields =
      let o = opcode w in
      or_else (eqb o 35) (of_load 35)
      (or_else (eqb o 43) (of_store 43)
      (or_else (eqb o 8) (of_immediate Add)
      (or_else (eqb o 10) (of_immediate Sub)
      (or_else (eqb o 12) (of_immediate And)
      (or_else (eqb o 13) (of_immediate Or)
      (or_else (eqb o 14) (of_immediate Xor)
      (or_else (eqb o 15) of_lhgi
      (or_else (leb 24 o && leb o 31) (of_immediate (Test (o - 24)))
      (or_else (eqb o 4) of_beqz
      (or_else (eqb o 5) of_bnez
      (or_else (eqb o 22) of_jr
      (or_else (eqb o 23) of_jalr
      (or_else (eqb o 2) of_j
      (or_else (eqb o 3) of_jal
      (or_else (eqb o 62) of_trap
      (or_else (eqb o 63) of_rfe
      (or_else (eqb o 0) registers_fields parts_fields)))))))))))))))))

-- so its word is the row's with the fields of w, and its text the row's
pub remade_is : (w : ℕ) → word_of (instruction_of w) ≡ remade (row_for (instruction_of w)) w
unfolding word_of made remade
remade_is w = let f = fields w in rw (f.first, f.second, f.third)

text_is : (w : ℕ) → text_of (instruction_of w) ≡ text_by (row_for (instruction_of w)) w
unfolding text_of text_by operand_text
text_is w = let f = fields w in rw (f.first, f.second, f.third)

-- ---- limits: only a special number has one

limit_is : (k : Kind) → same_kind k Special ≡ false → (operand_at k).limit ≡ (operand_at k).size
unfolding operand_at same_kind kind_number
limit_is Unused e = refl
limit_is Rs1 e = refl
limit_is Rs2 e = refl
limit_is Rd e = refl
limit_is RdOfR e = refl
limit_is Special e = cc
limit_is Short e = refl
limit_is High e = refl
limit_is Long e = refl
limit_is Whole e = refl

special_within : (w : ℕ) → within Special w ≡ leb (sa w) 11
unfolding within operand_at
special_within w = leb-suc-suc (w / 2 ^ 6 % 32) 11

either_way : (a b : Bool) → a || b ≡ true → a ≡ false → b ≡ true
either_way true b e q = cc
either_way false b e q = e

module _ (w : ℕ) where
  within_is : (k : Kind) → leb (sa w) 11 || not (same_kind k Special) ≡ true → within k w ≡ true
  unfolding within
  within_is k e =
      by_test (same_kind k Special)
      (λ q. rw (kinds_equal k Special q) (special_within w ∙ yes_left (leb (sa w) 11) (rw q at e)))
      (λ q. lt-ltb (field_of (operand_at k) w) (operand_at k).limit (omega (arith, limit_is k q, field_below k w)))
    where
      yes_left : (a : Bool) → a || false ≡ true → a ≡ true
      yes_left true e = refl
      yes_left false e = e

  within_gives : (k : Kind) → within k w ≡ true → leb (sa w) 11 ≡ false → not (same_kind k Special) ≡ true
  within_gives k e q =
      by_test (same_kind k Special)
      (λ p. let z : within Special w ≡ true = rw (kinds_equal k Special p) at e in let y : ◌≡◌ {A = Bool} true false = sym z ∙ special_within w ∙ q in cc)
      (λ p. rw p)

  module _ (r : Row) where
    limits_kept : leb (sa w) 11 || ordinary r ≡ true → fits r w ≡ eqb (remade r w) w
    unfolding fits ordinary
    limits_kept e =
        rw (
          within_is r.first (one (leb (sa w) 11) (λ q. and_left (not (same_kind r.first Special)) (not (same_kind r.second Special)) (and_left _ (not (same_kind r.third Special)) q)) e),
          within_is r.second (one (leb (sa w) 11) (λ q. and_right (not (same_kind r.first Special)) (not (same_kind r.second Special)) (and_left _ (not (same_kind r.third Special)) q)) e),
          within_is r.third (one (leb (sa w) 11) (λ q. and_right (not (same_kind r.first Special) && not (same_kind r.second Special)) _ q) e),
        )
        (drop_true (eqb (remade r w) w))
      where
        one : (a : Bool) {b c : Bool} → (b ≡ true → c ≡ true) → a || b ≡ true → a || c ≡ true
        one true f e = refl
        one false f e = f e

        drop_true : (a : Bool) → a && true && true && true ≡ a
        drop_true true = refl
        drop_true false = refl

    limits_needed : fits r w ≡ true → leb (sa w) 11 || ordinary r ≡ true
    unfolding fits ordinary
    limits_needed e =
        let e2 = and_left _ (within r.third w) e in
        let e1 = and_left _ (within r.second w) e2 in
        let z = and_right (eqb (remade r w) w && within r.first w && within r.second w) (within r.third w) e in
        let y = and_right (eqb (remade r w) w && within r.first w) (within r.second w) e2 in
        let x = and_right (eqb (remade r w) w) (within r.first w) e1 in
        by_test (leb (sa w) 11)
        (λ q. rw q)
        (λ q. rw (q, within_gives r.first x q, within_gives r.second y q, within_gives r.third z q))

-- ---- the theorems

unnamed_text : (w : ℕ) → w < 2 ^ 32 → text_by (row_at 45) w ≡ ascii "word " ++ decimal w
unfolding text_by row_at named unnamed operand_text operand_at written ascii
unnamed_text w l = let e : w / 1 % 2 ^ 32 ≡ w = omega arith in rw e

module _ (w : ℕ) (l : w < 2 ^ 32) where
  -- the row of a legal word
  legal_row : legal (instruction_of w) ≡ true → (row_for (instruction_of w) ≡ row_at (coded (code_of w))) × (leb (sa w) 11 || ordinary (row_at (coded (code_of w))) ≡ true)
  unfolding checked sampled lawful
  legal_row e =
      let a = sampled_alike w in
      let c = code_checked w (leb (sa w) 11) l in
      let j = instruction_of (sample (code_of w) (leb (sa w) 11)) in
      let r = row_at (coded (code_of w)) in
      let q : legal j ≡ true = sym a.law ∙ e in
      let t : same_row (row_for j) r && (leb (sa w) 11 || ordinary r) ≡ true = rw (q, checked) at c in
      (a.row ∙ rows_equal (row_for j) r (and_left (same_row (row_for j) r) _ t), and_right (same_row (row_for j) r) _ t)

  -- a word that is not legal has no row, or a special number above 11
  ill_row : legal (instruction_of w) ≡ false → eqb (coded (code_of w)) 45 || not (leb (sa w) 11 || ordinary (row_at (coded (code_of w)))) ≡ true
  unfolding checked sampled lawful
  ill_row e =
      let a = sampled_alike w in
      let c = code_checked w (leb (sa w) 11) l in
      let j = instruction_of (sample (code_of w) (leb (sa w) 11)) in
      let q : legal j ≡ false = sym a.law ∙ e in
      rw (q, checked) at c

  -- THEOREM: a legal word whose ignored fields are 0 is written as the instruction that it is
  pub named_line : legal (instruction_of w) ≡ true → word_of (instruction_of w) ≡ w → line_of w ≡ text_of (instruction_of w)
  unfolding line_of place_of
  named_line e q =
      let r = row_at (coded (code_of w)) in
      let f = legal_row e in
      let m : remade r w ≡ w = rw (← f.0) (sym (remade_is w) ∙ q) in
      let t : fits r w ≡ true = limits_kept w r f.1 ∙ eq-eqb (remade r w) w m in
      rw t (ap (λ (x : Row). text_by x w) (sym f.0) ∙ sym (text_is w))

  -- THEOREM: any other word is written as a number
  pub word_line : (legal (instruction_of w) ≡ true → word_of (instruction_of w) ≡ w → ⊥) → line_of w ≡ ascii "word " ++ decimal w
  unfolding line_of place_of named
  word_line n =
      let r = row_at (coded (code_of w)) in
      by_test (fits r w)
      (λ t. by_test (legal (instruction_of w))
      (λ e.
      let f = legal_row e in
      let m : remade (row_for (instruction_of w)) w ≡ w = rw f.0 (fits_remade r w t) in
      absurd (n e (remade_is w ∙ m)))
      (λ e. let z : coded (code_of w) ≡ 45 = eqb-true (coded (code_of w)) 45 (left_one _ _ (ill_row e) (rw (limits_needed w r t))) in rw (t, z) (unnamed_text w l)))
      (λ t. rw t (unnamed_text w l))
    where
      left_one : (a b : Bool) → a || b ≡ true → b ≡ false → a ≡ true
      left_one true b e q = refl
      left_one false b e q = sym q ∙ e
