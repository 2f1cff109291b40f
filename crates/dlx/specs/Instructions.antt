-- The instruction tables: every line of docs/RULES.md#instructions. Everything else is ill; unused fields are ignored.
use Rattle.std.specs.Prelude.{◌≡◌, Bool, true, ◌&&◌, ℕ, ◌-◌, ◌^◌, ◌<◌, ◌≤◌, leb, eqb}
use Prim.{Unit}
use Rattle.dlx.specs.Choice.{when◌then◌else◌}
use Rattle.dlx.specs.Words.{opcode, rs1, rs2, rd_immediate, rd_register, sa, function, extended}
use Rattle.dlx.specs.Fields.{loading, storing}
use Rattle.dlx.specs.declared.instruction.Operation.{Operation}
use Rattle.dlx.specs.declared.instruction.Operation.TheVariants.{Add, Sub, And, Or, Xor, Test}
use Rattle.dlx.specs.declared.instruction.Instruction.{Instruction}
use Rattle.dlx.specs.declared.instruction.Instruction.TheVariants.{LoadBy, StoreBy, Immediate, Lhgi, Beqz, Bnez, Jr, Jalr, J, Jal, Trap, Rfe, Register, Movs2i, Movi2s, Ill}

abbrev between : ℕ → ℕ → ℕ → Bool
between a n b = leb a n && leb n b

-- I-type: RD, RS1 and an immediate, extended from bit 15
abbrev immediate : Operation → ℕ → Instruction
immediate op w = Immediate op (rd_immediate w) (rs1 w) (extended 16 w)

abbrev load : ℕ → ℕ → Instruction
load o w = LoadBy o (rs1 w) (extended 16 w) (rd_immediate w)

abbrev store : ℕ → ℕ → Instruction
store o w = StoreBy o (rs1 w) (extended 16 w) (rd_immediate w)

-- R-type: RD, RS1, RS2
abbrev register : Operation → ℕ → Instruction
register op w = Register op (rd_register w) (rs1 w) (rs2 w)

-- a special number above 11 is ill
abbrev special : ℕ → Instruction → Instruction
special w i = when leb (sa w) 11 then i else Ill

-- opcode 0, by function
unfoldable pub register_type : ℕ → Instruction
register_type w =
    when eqb (function w) 32 then register Add w else
    when eqb (function w) 34 then register Sub w else
    when eqb (function w) 36 then register And w else
    when eqb (function w) 37 then register Or w else
    when eqb (function w) 38 then register Xor w else
    when between 40 (function w) 47 then register (Test (function w - 40)) w else
    when eqb (function w) 16 then special w (Movs2i (rd_register w) (sa w)) else
    when eqb (function w) 17 then special w (Movi2s (sa w) (rs1 w)) else
    Ill

-- bytes and half words
unfoldable pub part_type : ℕ → Instruction
part_type w =
    when eqb (opcode w) 32 then load 32 w else
    when eqb (opcode w) 33 then load 33 w else
    when eqb (opcode w) 36 then load 36 w else
    when eqb (opcode w) 37 then load 37 w else
    when eqb (opcode w) 40 then store 40 w else
    when eqb (opcode w) 41 then store 41 w else
    Ill

unfoldable pub instruction_of : ℕ → Instruction
instruction_of w =
    when eqb (opcode w) 35 then load 35 w else
    when eqb (opcode w) 43 then store 43 w else
    when eqb (opcode w) 8 then immediate Add w else
    when eqb (opcode w) 10 then immediate Sub w else
    when eqb (opcode w) 12 then immediate And w else
    when eqb (opcode w) 13 then immediate Or w else
    when eqb (opcode w) 14 then immediate Xor w else
    when eqb (opcode w) 15 then Lhgi (rd_immediate w) (extended 16 w) else
    when between 24 (opcode w) 31 then immediate (Test (opcode w - 24)) w else
    when eqb (opcode w) 4 then Beqz (rs1 w) (extended 16 w) else
    when eqb (opcode w) 5 then Bnez (rs1 w) (extended 16 w) else
    when eqb (opcode w) 22 then Jr (rs1 w) else
    when eqb (opcode w) 23 then Jalr (rs1 w) else
    when eqb (opcode w) 2 then J (extended 26 w) else
    when eqb (opcode w) 3 then Jal (extended 26 w) else
    when eqb (opcode w) 62 then Trap (extended 26 w) else
    when eqb (opcode w) 63 then Rfe else
    when eqb (opcode w) 0 then register_type w else
    part_type w

-- an instruction as a word can give it: its opcode is a load's or a store's, the registers that it names exist, its special register too, and its immediate is a word
abbrev pub Formed : Instruction → Type 0
Formed (LoadBy o s i d) = (loading o ≡ true) × (d < 32) × (s < 32) × (i < 2 ^ 32)
Formed (StoreBy o s i d) = (storing o ≡ true) × (d < 32) × (s < 32) × (i < 2 ^ 32)
Formed (Immediate op d s i) = (d < 32) × (s < 32) × (i < 2 ^ 32)
Formed (Lhgi d i) = (d < 32) × (i < 2 ^ 32)
Formed (Beqz s i) = (s < 32) × (i < 2 ^ 32)
Formed (Bnez s i) = (s < 32) × (i < 2 ^ 32)
Formed (Jr s) = s < 32
Formed (Jalr s) = s < 32
Formed (J i) = i < 2 ^ 32
Formed (Jal i) = i < 2 ^ 32
Formed (Trap i) = i < 2 ^ 32
Formed Rfe = Unit
Formed (Register op d s t) = (d < 32) × (s < 32) × (t < 32)
Formed (Movs2i d n) = (d < 32) × (n ≤ 11)
Formed (Movi2s n s) = (n ≤ 11) × (s < 32)
Formed Ill = Unit
