-- Worked examples, as one list that proofs/Checked.antt checks by a single claim: first the request's own that need no house, then rows for every line of the rules' tables.
use Prim.{tt}
use Rattle.std.specs.Prelude.{Bool, true, false, not, ◌&&◌, List, [], ◌∷◌, ◌++◌, ℕ, ◌+◌, ◌-◌, ◌*◌, ◌/◌, ◌^◌, ltb, eqb, length, get_or, set, replicate, Ok, Err}
use mir.Val.{bool_byte}
use Rattle.dlx.specs.Choice.{when◌then◌else◌}
use Rattle.dlx.specs.Processor.{fresh_processor, no_timer, fresh_of, with_special}
use Rattle.dlx.specs.Interrupts.{level_of}
use Rattle.dlx.specs.Execute.{reg}
use Rattle.dlx.specs.Machine.{Reply, Ops, Core, core, Outcome, Request, nothing, sends, takes, asked, reply, Desk, step, steps, Stretch, stretch_from}
use Rattle.dlx.specs.declared.partition.Table.{Table}
use Rattle.dlx.specs.declared.partition.Processor.{Processor}
use Rattle.dlx.specs.declared.partition.Timer.{Timer}

-- ---- a memory for examples: a list of words, with no table

pub record Flat : Type 0 where
  pub table : Table
  pub words : List ℕ

abbrev inside : Flat → ℕ → Bool
inside s a = ltb (a / 4) (length s.words)

abbrev flat : Ops Flat
flat = record {
  table = λ s. s.table;
  read = λ s u a. (when inside s a then Ok (get_or s.words (a / 4) 0) else Err 5, s);
  write = λ s u a f. (when inside s a then Ok tt else Err 6, record { table = s.table; words = set s.words (a / 4) (f (get_or s.words (a / 4) 0)) });
  retable = λ s t. record { table = t; words = s.words };
}

-- ---- machines to start from

abbrev zeros : List ℕ
zeros = replicate 32 0

-- registers 1 and 2 are x and y, all others 0
abbrev both : ℕ → ℕ → List ℕ
both x y = set (set zeros 1 x) 2 y

-- at DPC and PC, with SR and in a mode; what can be saved or kept is told apart by 91 to 100, and EMODE is the other mode
abbrev moded : ℕ → ℕ → ℕ → ℕ → ℕ → Processor
moded dpc pc sr mode emode =
    record { dpc = dpc; pc = pc; sr = sr; esr = 91; eca = 92; epc = 96; edpc = 100; edata = 95; mode = mode; emode = emode }

abbrev at : ℕ → ℕ → ℕ → ℕ → Processor
at dpc pc sr mode = moded dpc pc sr mode (1 - mode)

abbrev system_processor : Processor
system_processor = at 0 4 0 0

abbrev in_user : Processor
in_user = at 0 4 0 1

-- a timer that stands still, TLOAD told apart
abbrev still : Timer
still = record { tcount = 0; tload = 94 }

abbrev memory : List ℕ → Flat
memory ws = record { table = record { pto = 97; ptl = 98 }; words = ws }

-- one step of the word w at address 0
unfoldable pub once : Processor → List ℕ → ℕ → Outcome × Flat
once p r w = step flat (reply 0 0) (core p r 3 still, memory (w ∷ []))

-- n steps from boot with the program ws at address 0
unfoldable pub booted : ℕ → List ℕ → Core × Flat
booted n ws = steps flat (λ _. reply 0 0) n (core fresh_processor zeros 0 no_timer, memory ws)

-- ---- what is looked at

unfoldable pub r : ℕ → Outcome × Flat → ℕ
r k m = reg m.0.core.registers k

abbrev processor : Outcome × Flat → Processor
processor m = m.0.core.processor

-- ECA, EDPC, EPC, EDATA, ESR, EMODE, and then SR, MODE, DPC, PC: what an interrupt leaves
unfoldable pub interrupt : Outcome × Flat → ℕ → ℕ → ℕ → ℕ → ℕ → ℕ → Bool
interrupt m eca edpc epc edata esr emode =
    let p = processor m in
    eqb p.eca eca && eqb p.edpc edpc && eqb p.epc epc && eqb p.edata edata && eqb p.esr esr && eqb p.emode emode
    && eqb p.sr 0 && eqb p.mode 0 && eqb p.dpc 0 && eqb p.pc 4

unfoldable pub same : List ℕ → List ℕ → Bool
same [] [] = true
same [] (y ∷ ys) = false
same (x ∷ xs) [] = false
same (x ∷ xs) (y ∷ ys) = eqb x y && same xs ys

-- every number of a processor
abbrev numbers : Processor → List ℕ
numbers p =
    p.dpc ∷ p.pc ∷ p.sr ∷ p.esr ∷ p.eca ∷ p.epc ∷ p.edpc ∷ p.edata ∷ p.mode ∷ p.emode ∷ []

unfoldable pub pair : Outcome × Flat → ℕ → ℕ → Bool
pair m dpc pc = eqb (processor m).dpc dpc && eqb (processor m).pc pc

-- the word w is ill at DPC 0, PC 4, where the mode is as given: the old pair is saved, EDATA is kept
unfoldable pub is_ill : ℕ → ℕ → Bool
is_ill mode w = interrupt (once (at 0 4 0 mode) zeros w) 2 0 4 95 0 mode

-- ---- the request's examples

unfoldable pub papers : List Bool
papers =
    -- 0x20010005: register 1 = 5; 0xAC010008 after it: byte address 8 holds 5
    eqb (reg (booted 1 (0x20010005 ∷ 0xAC010008 ∷ 0 ∷ [])).0.registers 1) 5
    ∷ eqb (get_or (booted 2 (0x20010005 ∷ 0xAC010008 ∷ 0 ∷ [])).1.words 2 0) 5
    -- the third step: ill, ECA 2, EDPC 8, EPC 12
    ∷ (let p = (booted 3 (0x20010005 ∷ 0xAC010008 ∷ 0 ∷ [])).0.processor in eqb p.eca 2 && eqb p.edpc 8 && eqb p.epc 12)
    -- 0xF8000007 in system mode: ECA 32, EDATA 7, the guest calls; in user mode it doesn't
    ∷ interrupt (once system_processor zeros 0xF8000007) 32 4 8 7 0 0
    ∷ (once system_processor zeros 0xF8000007).0.calls
    ∷ interrupt (once in_user zeros 0xF8000007) 32 4 8 7 0 1
    ∷ eqb (bool_byte (once in_user zeros 0xF8000007).0.calls) 0
    -- 0xFBFFFFFF: EDATA 0xFFFFFFFF
    ∷ interrupt (once system_processor zeros 0xFBFFFFFF) 32 4 8 0xFFFFFFFF 0 0
    -- 0x00221820 with 0x7FFFFFFF and 1: SR 0 gives 0x80000000; SR 64 gives ovf
    ∷ eqb (r 3 (once system_processor (both 0x7FFFFFFF 1) 0x00221820)) 0x80000000
    ∷ interrupt (once (at 0 4 64 0) (both 0x7FFFFFFF 1) 0x00221820) 64 4 8 95 64 0
    ∷ eqb (r 3 (once (at 0 4 64 0) (both 0x7FFFFFFF 1) 0x00221820)) 0
    -- 0x1000FFFC at DPC 8, PC 12: DPC 12, PC 8
    ∷ pair (step flat (reply 0 0) (core (at 8 12 0 0) zeros 3 still, memory (0 ∷ 0 ∷ 0x1000FFFC ∷ []))) 12 8
    -- causes 3 and 6 (72): level 3; the level of 0 is 32
    ∷ eqb (level_of 72) 3
    ∷ eqb (level_of 0) 32
    -- rfe in user mode: ECA 2
    ∷ is_ill 1 0xFC000000
    -- 0x80000000 sls 1: 1
    ∷ eqb (r 3 (once system_processor (both 0x80000000 1) 0x0022182C)) 1
    ∷ []

-- ---- rows: one step each, and the whole state after it

-- a memory that notes the accesses made, the last one first: at the address a as a, or a + 1 in user mode, and 2 more for a write; a new table as 1
pub record Watched : Type 0 where
  pub table : Table
  pub words : List ℕ
  pub seen : List ℕ

abbrev within : Watched → ℕ → Bool
within s a = ltb (a / 4) (length s.words)

abbrev noted : Watched → List ℕ → ℕ → Watched
noted s ws n = record { table = s.table; words = ws; seen = n ∷ s.seen }

abbrev watched : Ops Watched
watched = record {
  table = λ s. s.table;
  read = λ s u a. (when within s a then Ok (get_or s.words (a / 4) 0) else Err 5, noted s s.words (a + bool_byte u));
  write = λ s u a f. (when within s a then Ok tt else Err 6, noted s (set s.words (a / 4) (f (get_or s.words (a / 4) 0))) (a + 2 + bool_byte u));
  retable = λ s t. record { table = t; words = s.words; seen = 1 ∷ s.seen };
}

-- PTO and PTL
abbrev tables : Table
tables = record { pto = 97; ptl = 98 }

-- the word w at address 8; addresses from 48 on are outside
abbrev around : ℕ → List ℕ
around w = 300 ∷ 301 ∷ w ∷ 303 ∷ 304 ∷ 305 ∷ 306 ∷ 307 ∷ 308 ∷ 309 ∷ 310 ∷ 311 ∷ []

-- register k is 200 + k
abbrev known : List ℕ
known =
    0 ∷ 201 ∷ 202 ∷ 203 ∷ 204 ∷ 205 ∷ 206 ∷ 207 ∷ 208 ∷ 209 ∷ 210 ∷ 211 ∷ 212 ∷ 213 ∷ 214 ∷ 215 ∷ 216 ∷ 217 ∷ 218 ∷ 219 ∷ 220 ∷ 221 ∷ 222
    ∷ 223 ∷ 224 ∷ 225 ∷ 226 ∷ 227 ∷ 228 ∷ 229 ∷ 230 ∷ 231 ∷ []

-- RS1 and RS2 of the rows, registers 21 and 19, are x and y
abbrev given : ℕ → ℕ → List ℕ
given x y = set (set known 21 x) 19 y

-- words by their fields; RS1 is 21, RS2 19, RD 27, and a field that an instruction has no use for is not 0
abbrev i_word : ℕ → ℕ → ℕ
i_word opcode i = opcode * 2 ^ 26 + 21 * 2 ^ 21 + 27 * 2 ^ 16 + i

abbrev s_word : ℕ → ℕ → ℕ
s_word function sa = 21 * 2 ^ 21 + 19 * 2 ^ 16 + 27 * 2 ^ 11 + sa * 2 ^ 6 + function

abbrev r_word : ℕ → ℕ
r_word function = s_word function 13

abbrev j_word : ℕ → ℕ → ℕ
j_word opcode i = opcode * 2 ^ 26 + i

-- one step of the word w at address 8, with an answer that only a ticket may use
unfoldable pub tried : Processor → List ℕ → ℕ → Outcome × Watched
tried p rs w = step watched (reply 0 77) (core p rs 3 still, record { table = tables; words = around w; seen = [] })

-- The whole state after a step: the timer, the processor's numbers, PTO and PTL, whether the guest calls, the accesses, the registers and the words.
unfoldable pub leaves_timed : ℕ → ℕ → Outcome × Watched → List ℕ → ℕ → ℕ → ℕ → List ℕ → List ℕ → List ℕ → Bool
leaves_timed tcount tload m ps pto ptl calls seen rs ws =
    same (m.0.core.timer.tcount ∷ m.0.core.timer.tload ∷ numbers m.0.core.processor) (tcount ∷ tload ∷ ps)
    && same (m.1.table.pto ∷ m.1.table.ptl ∷ bool_byte m.0.calls ∷ m.1.seen) (pto ∷ ptl ∷ calls ∷ seen)
    && same m.0.core.registers rs && same m.1.words ws

-- where the timer stands still
unfoldable pub leaves : Outcome × Watched → List ℕ → ℕ → ℕ → ℕ → List ℕ → List ℕ → List ℕ → Bool
leaves m ps pto ptl calls seen rs ws = leaves_timed 0 94 m ps pto ptl calls seen rs ws

-- a plain step of w from DPC 8 and PC 20, with SR: PC' is the target, these are the registers, and nothing else changes
unfoldable pub plain : ℕ → ℕ → ℕ → List ℕ → ℕ → List ℕ → Bool
plain sr mode w rs target rs' =
    leaves (tried (at 8 20 sr mode) rs w) (numbers (at 20 target sr mode)) 97 98 0 ((8 + mode) ∷ []) rs' (around w)

-- the same in either mode, with ovf unmasked
unfoldable pub goes : ℕ → List ℕ → ℕ → List ℕ → Bool
goes w rs target rs' = plain 64 0 w rs target rs' && plain 64 1 w rs target rs'

-- SR with all bits but 6: ovf masked
abbrev masked : ℕ
masked = 0xFFFFFFBF

-- RD becomes v: by an opcode, from x and the immediate i; by a function, from x and y
unfoldable pub opcode_in : ℕ → ℕ → ℕ → ℕ → ℕ → Bool
opcode_in mode op x i v = plain 64 mode (i_word op i) (given x 219) 24 (set (given x 219) 27 v)

unfoldable pub function_in : ℕ → ℕ → ℕ → ℕ → ℕ → Bool
function_in mode f x y v = plain 64 mode (r_word f) (given x y) 24 (set (given x y) 27 v)

-- the same in either mode
unfoldable pub by_opcode : ℕ → ℕ → ℕ → ℕ → Bool
by_opcode op x i v = opcode_in 0 op x i v && opcode_in 1 op x i v

unfoldable pub by_function : ℕ → ℕ → ℕ → ℕ → Bool
by_function f x y v = function_in 0 f x y v && function_in 1 f x y v

-- RD is l, e or g where the first number is less, equal or greater; they are signed
unfoldable pub opcode_orders : ℕ → ℕ → ℕ → ℕ → Bool
opcode_orders op l e g =
    opcode_in 0 op 0xFFFF8000 0x7FFF l && opcode_in 1 op 3 7 l && opcode_in 0 op 0xFFFFFFF9 0xFFFD l
    && opcode_in 0 op 5 5 e && opcode_in 1 op 0xFFFFFFFB 0xFFFB e
    && opcode_in 0 op 0x7FFF 0x8000 g && opcode_in 1 op 7 3 g

unfoldable pub function_orders : ℕ → ℕ → ℕ → ℕ → Bool
function_orders f l e g =
    function_in 0 f 0x80000000 0x7FFFFFFF l && function_in 1 f 3 7 l && function_in 0 f 0xFFFFFFF9 0xFFFFFFFD l
    && function_in 0 f 5 5 e && function_in 1 f 0x80000000 0x80000000 e
    && function_in 0 f 0x7FFFFFFF 0x80000000 g && function_in 1 f 7 3 g

-- a jump where RS1 is x: no register changes; or register 31 becomes PC + 4
unfoldable pub jumps : ℕ → ℕ → ℕ → Bool
jumps w x target = goes w (given x 219) target (given x 219)

unfoldable pub links : ℕ → ℕ → ℕ → Bool
links w x target = goes w (given x 219) target (set (given x 219) 31 24)

-- a data access, noted as n, where RS1 is x: these are the registers and the words after it
unfoldable pub reaches : ℕ → ℕ → ℕ → ℕ → List ℕ → List ℕ → Bool
reaches mode w x n rs ws =
    leaves (tried (at 8 20 64 mode) (given x 219) w) (numbers (at 20 24 64 mode)) 97 98 0 ((n + mode) ∷ (8 + mode) ∷ []) rs ws

-- a load: RD becomes v, the word at a; a store: RD, 227, goes to a
unfoldable pub gets : ℕ → ℕ → ℕ → ℕ → ℕ → Bool
gets mode x i a v = reaches mode (i_word 35 i) x a (set (given x 219) 27 v) (around (i_word 35 i))

unfoldable pub puts : ℕ → ℕ → ℕ → ℕ → Bool
puts mode x i a = reaches mode (i_word 43 i) x (a + 2) (given x 219) (set (around (i_word 43 i)) (a / 4) 227)

-- an interrupt from p: ECA, EDPC, EPC and EDATA after it, whether the guest calls, and the accesses; ESR and EMODE are the old SR and MODE
unfoldable pub enters : Processor → List ℕ → ℕ → ℕ → ℕ → ℕ → ℕ → ℕ → List ℕ → Bool
enters p rs w eca edpc epc edata calls seen =
    leaves (tried p rs w) (0 ∷ 4 ∷ 0 ∷ p.sr ∷ eca ∷ epc ∷ edpc ∷ edata ∷ 0 ∷ p.mode ∷ []) 97 98 calls seen rs (around w)

-- the word w is ill: the pair behind is saved, EDATA is kept
unfoldable pub refuses : ℕ → ℕ → Bool
refuses mode w = enters (at 8 20 64 mode) known w 2 8 20 95 0 ((8 + mode) ∷ [])

unfoldable pub each : (ℕ → Bool) → List ℕ → Bool
each f [] = true
each f (x ∷ xs) = f x && each f xs

-- ---- the instructions

unfoldable pub immediates : List Bool
immediates =
    -- [lw] RD = the word at RS1 + imm; the offset may be negative, and the sum wraps
    gets 0 16 12 28 307
    ∷ gets 1 64 0xFFD8 24 306
    ∷ gets 0 0xFFFFFFFC 8 4 301
    -- [sw] RD to the word at RS1 + imm
    ∷ puts 0 16 12 28
    ∷ puts 1 64 0xFFD8 24
    ∷ puts 0 0xFFFFFFFC 8 4
    -- [addi]
    ∷ by_opcode 8 1000 234 1234
    ∷ by_opcode 8 1000 0xFFFF 999
    -- [subi]
    ∷ by_opcode 10 1000 234 766
    ∷ by_opcode 10 1000 0xFFFF 1001
    ∷ by_opcode 10 234 1000 0xFFFFFD02
    -- [andi] with the sign-extended immediate
    ∷ by_opcode 12 0xC3005ACF 0x0FF3 0x00000AC3
    ∷ by_opcode 12 0xC3005ACF 0x8FF3 0xC3000AC3
    -- [ori] likewise
    ∷ by_opcode 13 0xC3005ACF 0x0FF3 0xC3005FFF
    ∷ by_opcode 13 0x43005ACF 0x8FF3 0xFFFFDFFF
    -- [xori] likewise
    ∷ by_opcode 14 0xC3005ACF 0x0FF3 0xC300553C
    ∷ by_opcode 14 0x43005ACF 0x8FF3 0xBCFFD53C
    -- [lhgi] the low 16 bits times 65,536
    ∷ by_opcode 15 1000 0x8765 0x87650000
    ∷ by_opcode 15 1000 0x4321 0x43210000
    ∷ []

unfoldable pub functions : List Bool
functions =
    -- [add]
    by_function 32 1000 234 1234
    ∷ by_function 32 1000 0xFFFFFFFE 998
    -- [sub]
    ∷ by_function 34 1000 234 766
    ∷ by_function 34 234 1000 0xFFFFFD02
    -- [and] overflows nowhere
    ∷ by_function 36 0xC3005ACF 0x4FF10FF3 0x43000AC3
    ∷ by_function 36 0x73005ACF 0x4FF10FF3 0x43000AC3
    -- [or] likewise
    ∷ by_function 37 0xC3005ACF 0x4FF10FF3 0xCFF15FFF
    ∷ by_function 37 0x73005ACF 0x4FF10FF3 0x7FF15FFF
    -- [xor] likewise
    ∷ by_function 38 0xC3005ACF 0x4FF10FF3 0x8CF1553C
    ∷ by_function 38 0x73005ACF 0x4FF10FF3 0x3CF1553C
    ∷ []

unfoldable pub edges : List Bool
edges =
    -- [register 0] reads 0, and writes to it vanish
    goes (8 * 2 ^ 26 + 27 * 2 ^ 16 + 5) known 24 (set known 27 5)
    ∷ goes (21 * 2 ^ 21 + 27 * 2 ^ 11 + 34) known 24 (set known 27 221)
    ∷ goes (19 * 2 ^ 16 + 27 * 2 ^ 11 + 32) known 24 (set known 27 219)
    ∷ goes (8 * 2 ^ 26 + 21 * 2 ^ 21 + 5) known 24 known
    ∷ goes (15 * 2 ^ 26 + 5) known 24 known
    ∷ goes (31 * 2 ^ 26 + 21 * 2 ^ 21 + 5) known 24 known
    ∷ goes (21 * 2 ^ 21 + 19 * 2 ^ 16 + 32) known 24 known
    ∷ plain 64 0 (2 * 2 ^ 6 + 16) known 24 known
    ∷ leaves (tried (at 8 20 64 0) known (35 * 2 ^ 26 + 12)) (numbers (at 20 24 64 0)) 97 98 0 (12 ∷ 8 ∷ []) known (around (35 * 2 ^ 26 + 12))
    ∷ leaves (tried (at 8 20 64 0) known (43 * 2 ^ 26 + 12)) (numbers (at 20 24 64 0)) 97 98 0 (14 ∷ 8 ∷ []) known
    (set (around (43 * 2 ^ 26 + 12)) 3 0)
    -- [sign extension] from bit 15: 0x7FFF and 0x8000
    ∷ by_opcode 8 0 0x7FFF 0x00007FFF
    ∷ by_opcode 8 0 0x8000 0xFFFF8000
    ∷ gets 0 0xFFFF8010 0x7FFC 12 303
    ∷ gets 0 0x00008010 0x8000 16 304
    ∷ puts 0 0xFFFF8010 0x7FFC 12
    ∷ puts 0 0x00008010 0x8000 16
    ∷ jumps (i_word 4 0x7FFC) 0 0x00008010
    ∷ jumps (i_word 4 0x8000) 0 0xFFFF8014
    ∷ jumps (i_word 5 0x7FFC) 1 0x00008010
    ∷ jumps (i_word 5 0x8000) 1 0xFFFF8014
    -- [PC] PC' = PC + 4, and 0xFFFFFFFC goes to 0; jumps wrap too
    ∷ leaves (tried (at 8 0xFFFFFFFC 64 0) known (r_word 32)) (numbers (at 0xFFFFFFFC 0 64 0)) 97 98 0 (8 ∷ []) (set known 27 440) (around (r_word 32))
    ∷ leaves (tried (at 8 0xFFFFFFFC 64 0) known (j_word 3 8)) (numbers (at 0xFFFFFFFC 4 64 0)) 97 98 0 (8 ∷ []) (set known 31 0) (around (j_word 3 8))
    ∷ []

-- where the first number is less, equal, greater
unfoldable pub immediate_tests : List Bool
immediate_tests =
    -- [clr 24] never
    opcode_orders 24 0 0 0
    -- [sgr 25] greater
    ∷ opcode_orders 25 0 0 1
    -- [seq 26] equal
    ∷ opcode_orders 26 0 1 0
    -- [sge 27] greater or equal
    ∷ opcode_orders 27 0 1 1
    -- [sls 28] less
    ∷ opcode_orders 28 1 0 0
    -- [sne 29] unequal
    ∷ opcode_orders 29 1 0 1
    -- [sle 30] less or equal
    ∷ opcode_orders 30 1 1 0
    -- [set 31] always
    ∷ opcode_orders 31 1 1 1
    ∷ []

unfoldable pub function_tests : List Bool
function_tests =
    -- [clr 40] never
    function_orders 40 0 0 0
    -- [sgr 41] greater
    ∷ function_orders 41 0 0 1
    -- [seq 42] equal
    ∷ function_orders 42 0 1 0
    -- [sge 43] greater or equal
    ∷ function_orders 43 0 1 1
    -- [sls 44] less
    ∷ function_orders 44 1 0 0
    -- [sne 45] unequal
    ∷ function_orders 45 1 0 1
    -- [sle 46] less or equal
    ∷ function_orders 46 1 1 0
    -- [set 47] always
    ∷ function_orders 47 1 1 1
    ∷ []

-- no jump but jal and jalr writes a register
unfoldable pub jumping : List Bool
jumping =
    -- [beqz] taken or not, on the whole word
    jumps (i_word 4 0x1230) 0 0x1244
    ∷ jumps (i_word 4 0xFFF0) 0 4
    ∷ jumps (i_word 4 0x1230) 1 24
    ∷ jumps (i_word 4 0x1230) 0x80000000 24
    -- [bnez] likewise
    ∷ jumps (i_word 5 0x1230) 0 24
    ∷ jumps (i_word 5 0x1230) 1 0x1244
    ∷ jumps (i_word 5 0x1230) 0x80000000 0x1244
    ∷ jumps (i_word 5 0xFFF0) 2 4
    -- [jr] PC' = RS1, a misaligned one too
    ∷ jumps (i_word 22 0x1230) 0x4568 0x4568
    ∷ jumps (i_word 22 0x1230) 0x4567 0x4567
    -- [jalr] likewise; RS1 is read before the link is written
    ∷ links (i_word 23 0x1230) 0x4568 0x4568
    ∷ links (i_word 23 0x1230) 0x4567 0x4567
    ∷ goes (23 * 2 ^ 26 + 31 * 2 ^ 21) known 231 (set known 31 24)
    -- [j] PC' = PC + imm, extended from bit 25
    ∷ jumps (j_word 2 0x0000FFFC) 221 0x00010010
    ∷ jumps (j_word 2 0x01FFFFFC) 221 0x02000010
    ∷ jumps (j_word 2 0x02000000) 221 0xFE000014
    ∷ jumps (j_word 2 0x03FFFFF0) 221 4
    -- [jal] likewise, with the link
    ∷ links (j_word 3 0x0000FFFC) 221 0x00010010
    ∷ links (j_word 3 0x01FFFFFC) 221 0x02000010
    ∷ links (j_word 3 0x02000000) 221 0xFE000014
    ∷ links (j_word 3 0x03FFFFF0) 221 4
    -- [trap] cause 5; in system mode the guest calls
    ∷ enters (at 8 20 64 0) known (j_word 62 0x00123456) 32 20 24 0x00123456 1 (8 ∷ [])
    ∷ enters (at 8 20 64 1) known (j_word 62 0x00123456) 32 20 24 0x00123456 0 (9 ∷ [])
    ∷ enters (at 8 20 64 0) known (j_word 62 0x01FFFFFF) 32 20 24 0x01FFFFFF 1 (8 ∷ [])
    ∷ enters (at 8 20 64 0) known (j_word 62 0x02000000) 32 20 24 0xFE000000 1 (8 ∷ [])
    -- [trap 256] [trap 257] register 3 becomes the answer, and register 1 the ticket taken
    ∷ plain 64 0 (j_word 62 256) known 24 (set known 3 0)
    ∷ plain 64 0 (j_word 62 257) known 24 (set (set known 3 0) 1 77)
    -- [rfe] PC = EPC, DPC = EDPC, SR = ESR, MODE = EMODE; its other bits are ignored
    ∷ leaves (tried (at 8 20 64 0) known (j_word 63 0)) (100 ∷ 96 ∷ 91 ∷ 91 ∷ 92 ∷ 96 ∷ 100 ∷ 95 ∷ 1 ∷ 1 ∷ []) 97 98 0 (8 ∷ []) known
    (around (j_word 63 0))
    ∷ leaves (tried (moded 8 20 64 0 0) known (j_word 63 0x03FFFFFF)) (100 ∷ 96 ∷ 91 ∷ 91 ∷ 92 ∷ 96 ∷ 100 ∷ 95 ∷ 0 ∷ 0 ∷ []) 97 98 0 (8 ∷ [])
    known (around (j_word 63 0x03FFFFFF))
    ∷ []

unfoldable pub ill_opcodes : List Bool
ill_opcodes =
    -- [ill opcodes] every opcode that the table doesn't have
    each (λ op. refuses 0 (i_word op 0x1230))
    (1 ∷ 6 ∷ 7 ∷ 9 ∷ 11 ∷ 16 ∷ 17 ∷ 18 ∷ 19 ∷ 20 ∷ 21 ∷ 34 ∷ 38 ∷ 39 ∷ 42 ∷ [])
    ∷ each (λ op. refuses 1 (i_word op 0x1230))
    (44 ∷ 45 ∷ 46 ∷ 47 ∷ 48 ∷ 49 ∷ 50 ∷ 51 ∷ 52 ∷ 53 ∷ 54 ∷ 55 ∷ 56 ∷ 57 ∷ 58 ∷ 59 ∷ 60 ∷ 61 ∷ [])
    ∷ []

unfoldable pub ill_functions : List Bool
ill_functions =
    -- [ill functions] every function that the table doesn't have; so word 0 is ill
    refuses 0 0
    ∷ each (λ f. refuses 0 (s_word f 3)) (0 ∷ 1 ∷ 2 ∷ 3 ∷ 4 ∷ 5 ∷ 6 ∷ 7 ∷ 8 ∷ 9 ∷ 10 ∷ 11 ∷ 12 ∷ 13 ∷ 14 ∷ 15 ∷ [])
    ∷ each (λ f. refuses 0 (s_word f 3)) (18 ∷ 19 ∷ 20 ∷ 21 ∷ 22 ∷ 23 ∷ 24 ∷ 25 ∷ 26 ∷ 27 ∷ 28 ∷ 29 ∷ 30 ∷ 31 ∷ 33 ∷ 35 ∷ 39 ∷ [])
    ∷ each (λ f. refuses 1 (s_word f 3)) (48 ∷ 49 ∷ 50 ∷ 51 ∷ 52 ∷ 53 ∷ 54 ∷ 55 ∷ 56 ∷ 57 ∷ 58 ∷ 59 ∷ 60 ∷ 61 ∷ 62 ∷ 63 ∷ [])
    ∷ []

unfoldable pub ill_specials : List Bool
ill_specials =
    -- [ill specials] a special number above 11
    each (λ n. refuses 0 (s_word 16 n) && refuses 0 (s_word 17 n)) (12 ∷ 13 ∷ 14 ∷ 15 ∷ 16 ∷ 20 ∷ 24 ∷ 25 ∷ 31 ∷ [])
    -- [ill in user mode] movs2i and movi2s of every special, and rfe
    ∷ each (λ n. refuses 1 (s_word 16 n) && refuses 1 (s_word 17 n)) (0 ∷ 1 ∷ 2 ∷ 3 ∷ 4 ∷ 5 ∷ 6 ∷ 7 ∷ 8 ∷ 9 ∷ 10 ∷ 11 ∷ [])
    ∷ refuses 1 (j_word 63 0)
    ∷ []

-- ---- the special registers

-- movs2i: RD becomes v, special n
unfoldable pub reads : ℕ → ℕ → Bool
reads n v = plain 64 0 (s_word 16 n) known 24 (set known 27 v)

-- movi2s: special n from RS1, x; DPC, PC, SR, ESR, ECA, EPC, EDPC, EDATA, MODE, EMODE after it, and PTO and PTL
unfoldable pub moves : Processor → ℕ → ℕ → List ℕ → ℕ → ℕ → List ℕ → Bool
moves p n x ps pto ptl seen = leaves (tried p (given x 219) (s_word 17 n)) ps pto ptl 0 seen (given x 219) (around (s_word 17 n))

-- a special of the processor from x
unfoldable pub becomes : ℕ → ℕ → List ℕ → Bool
becomes n x ps = moves (at 8 20 64 0) n x ps 97 98 (8 ∷ [])

-- a special of the timer, which stood still, from x: TCOUNT and TLOAD after it
unfoldable pub counts : ℕ → ℕ → ℕ → ℕ → Bool
counts n x tcount tload =
    leaves_timed tcount tload (tried (at 8 20 64 0) (given x 219) (s_word 17 n)) (numbers (at 20 24 64 0)) 97 98 0 (8 ∷ []) (given x 219) (around (s_word 17 n))

-- the accesses of two steps: a movi2s of x to special n, and the step behind it
unfoldable pub behind_it : ℕ → ℕ → List ℕ
behind_it n x =
    (steps watched (λ _. reply 0 77) 2 (core (at 8 20 64 0) (given x 219) 3 still, record { table = tables; words = around (s_word 17 n); seen = [] })
    ).1.seen

unfoldable pub specials : List Bool
specials =
    -- [movs2i] [movi2s] read and write each special register, and go on to PC + 4
    -- [special 0 SR]
    reads 0 64
    ∷ becomes 0 0xFEDCBA98 (20 ∷ 24 ∷ 0xFEDCBA98 ∷ 91 ∷ 92 ∷ 96 ∷ 100 ∷ 95 ∷ 0 ∷ 1 ∷ [])
    -- [special 1 ESR]
    ∷ reads 1 91
    ∷ becomes 1 0xFEDCBA98 (20 ∷ 24 ∷ 64 ∷ 0xFEDCBA98 ∷ 92 ∷ 96 ∷ 100 ∷ 95 ∷ 0 ∷ 1 ∷ [])
    -- [special 2 ECA]
    ∷ reads 2 92
    ∷ becomes 2 0xFEDCBA98 (20 ∷ 24 ∷ 64 ∷ 91 ∷ 0xFEDCBA98 ∷ 96 ∷ 100 ∷ 95 ∷ 0 ∷ 1 ∷ [])
    -- [special 3 EPC]
    ∷ reads 3 96
    ∷ becomes 3 0xFEDCBA98 (20 ∷ 24 ∷ 64 ∷ 91 ∷ 92 ∷ 0xFEDCBA98 ∷ 100 ∷ 95 ∷ 0 ∷ 1 ∷ [])
    -- [special 4 EDPC]
    ∷ reads 4 100
    ∷ becomes 4 0xFEDCBA98 (20 ∷ 24 ∷ 64 ∷ 91 ∷ 92 ∷ 96 ∷ 0xFEDCBA98 ∷ 95 ∷ 0 ∷ 1 ∷ [])
    -- [special 5 EDATA]
    ∷ reads 5 95
    ∷ becomes 5 0xFEDCBA98 (20 ∷ 24 ∷ 64 ∷ 91 ∷ 92 ∷ 96 ∷ 100 ∷ 0xFEDCBA98 ∷ 0 ∷ 1 ∷ [])
    -- [special 6 MODE] modulo 2; the next fetch is made in the new mode, at the old PC
    ∷ reads 6 0
    ∷ becomes 6 0xFEDCBA97 (20 ∷ 24 ∷ 64 ∷ 91 ∷ 92 ∷ 96 ∷ 100 ∷ 95 ∷ 1 ∷ 1 ∷ [])
    ∷ becomes 6 0xFEDCBA9A (20 ∷ 24 ∷ 64 ∷ 91 ∷ 92 ∷ 96 ∷ 100 ∷ 95 ∷ 0 ∷ 1 ∷ [])
    ∷ same (behind_it 6 3) (21 ∷ 8 ∷ [])
    -- [special 7 PTO] a new table, of the same value too
    ∷ reads 7 97
    ∷ moves (at 8 20 64 0) 7 0xFEDCBA98 (20 ∷ 24 ∷ 64 ∷ 91 ∷ 92 ∷ 96 ∷ 100 ∷ 95 ∷ 0 ∷ 1 ∷ []) 0xFEDCBA98 98 (1 ∷ 8 ∷ [])
    ∷ moves (at 8 20 64 0) 7 97 (20 ∷ 24 ∷ 64 ∷ 91 ∷ 92 ∷ 96 ∷ 100 ∷ 95 ∷ 0 ∷ 1 ∷ []) 97 98 (1 ∷ 8 ∷ [])
    -- [special 8 PTL] a new table, of the same value too
    ∷ reads 8 98
    ∷ moves (at 8 20 64 0) 8 0xFEDCBA98 (20 ∷ 24 ∷ 64 ∷ 91 ∷ 92 ∷ 96 ∷ 100 ∷ 95 ∷ 0 ∷ 1 ∷ []) 97 0xFEDCBA98 (1 ∷ 8 ∷ [])
    ∷ moves (at 8 20 64 0) 8 98 (20 ∷ 24 ∷ 64 ∷ 91 ∷ 92 ∷ 96 ∷ 100 ∷ 95 ∷ 0 ∷ 1 ∷ []) 97 98 (1 ∷ 8 ∷ [])
    -- [special 9 EMODE] modulo 2
    ∷ reads 9 1
    ∷ becomes 9 0xFEDCBA9A (20 ∷ 24 ∷ 64 ∷ 91 ∷ 92 ∷ 96 ∷ 100 ∷ 95 ∷ 0 ∷ 0 ∷ [])
    ∷ moves (moded 8 20 64 0 0) 9 0xFEDCBA97 (20 ∷ 24 ∷ 64 ∷ 91 ∷ 92 ∷ 96 ∷ 100 ∷ 95 ∷ 0 ∷ 1 ∷ []) 97 98 (8 ∷ [])
    -- [special 10 TCOUNT]
    ∷ reads 10 0
    ∷ counts 10 0xFEDCBA98 0xFEDCBA98 94
    -- [special 11 TLOAD]
    ∷ reads 11 94
    ∷ counts 11 0xFEDCBA98 0 0xFEDCBA98
    -- [special in the processor] changes nothing else of it; PTO and PTL do not stand in it
    ∷ same (numbers (with_special (at 8 20 64 0) 3 0xFEDCBA98)) (8 ∷ 20 ∷ 64 ∷ 91 ∷ 92 ∷ 0xFEDCBA98 ∷ 100 ∷ 95 ∷ 0 ∷ 1 ∷ [])
    ∷ same (numbers (with_special (at 8 20 64 0) 7 0xFEDCBA98)) (8 ∷ 20 ∷ 64 ∷ 91 ∷ 92 ∷ 96 ∷ 100 ∷ 95 ∷ 0 ∷ 1 ∷ [])
    ∷ same (numbers (with_special (at 8 20 64 0) 8 0xFEDCBA98)) (8 ∷ 20 ∷ 64 ∷ 91 ∷ 92 ∷ 96 ∷ 100 ∷ 95 ∷ 0 ∷ 1 ∷ [])
    -- [boot] all zero but PC = 4, no fault yet
    ∷ same (numbers (fresh_of 3).processor) (0 ∷ 4 ∷ 0 ∷ 0 ∷ 0 ∷ 0 ∷ 0 ∷ 0 ∷ 0 ∷ 0 ∷ [])
    ∷ same ((fresh_of 3).pages ∷ (fresh_of 3).table.pto ∷ (fresh_of 3).table.ptl ∷ (fresh_of 3).counter ∷ []) (3 ∷ 0 ∷ 0 ∷ 0 ∷ [])
    ∷ same ((fresh_of 3).timer.tcount ∷ (fresh_of 3).timer.tload ∷ (fresh_of 3).fault ∷ []) (0 ∷ 0 ∷ 0 ∷ [])
    ∷ []

-- ---- the causes: ECA, EDPC, EPC, EDATA, calls, accesses

-- a function of x and y interrupts with ovf; or, masked, writes v
unfoldable pub overflows : ℕ → ℕ → ℕ → Bool
overflows w x y =
    enters (at 8 20 64 0) (given x y) w 64 20 24 95 0 (8 ∷ []) && enters (at 8 20 64 1) (given x y) w 64 20 24 95 0 (9 ∷ [])

unfoldable pub wraps : ℕ → ℕ → ℕ → ℕ → Bool
wraps w x y v =
    plain masked 0 w (given x y) 24 (set (given x y) 27 v) && plain masked 1 w (given x y) 24 (set (given x y) 27 v)

unfoldable pub causes : List Bool
causes =
    -- [cause 1 ill] the old pair, in a delay slot and where PC + 4 would wrap, EDATA kept; with all of SR, and with none
    enters (at 8 20 masked 0) known 0 2 8 20 95 0 (8 ∷ [])
    ∷ enters (at 8 20 0 1) known 0 2 8 20 95 0 (9 ∷ [])
    ∷ enters (at 8 0xFFFFFFFC 64 0) known 0 2 8 0xFFFFFFFC 95 0 (8 ∷ [])
    -- [cause 2 mal] of DPC, with no fetch; of a data address, with no access; the old pair, EDATA kept
    ∷ enters (at 9 20 masked 0) known 0 4 9 20 95 0 []
    ∷ enters (at 10 20 0 1) known 0 4 10 20 95 0 []
    ∷ enters (at 11 0xFFFFFFFC 64 0) known 0 4 11 0xFFFFFFFC 95 0 []
    ∷ enters (at 8 20 masked 0) (given 16 219) (i_word 35 5) 4 8 20 95 0 (8 ∷ [])
    ∷ enters (at 8 20 0 1) (given 16 219) (i_word 35 6) 4 8 20 95 0 (9 ∷ [])
    ∷ enters (at 8 0xFFFFFFFC 64 0) (given 17 219) (i_word 35 6) 4 8 0xFFFFFFFC 95 0 (8 ∷ [])
    ∷ enters (at 8 20 masked 0) (given 16 219) (i_word 43 5) 4 8 20 95 0 (8 ∷ [])
    ∷ enters (at 8 20 0 1) (given 16 219) (i_word 43 6) 4 8 20 95 0 (9 ∷ [])
    ∷ enters (at 8 0xFFFFFFFC 64 0) (given 17 219) (i_word 43 6) 4 8 0xFFFFFFFC 95 0 (8 ∷ [])
    -- [cause 3 pff] the old pair, EDATA = DPC
    ∷ enters (at 48 20 masked 0) known 0 8 48 20 48 0 (48 ∷ [])
    ∷ enters (at 52 20 0 1) known 0 8 52 20 52 0 (53 ∷ [])
    ∷ enters (at 48 0xFFFFFFFC 64 0) known 0 8 48 0xFFFFFFFC 48 0 (48 ∷ [])
    -- [cause 4 pfls] the old pair, EDATA = the data address; a load to register 0 faults too
    ∷ enters (at 8 20 masked 0) (given 36 219) (i_word 35 12) 16 8 20 48 0 (48 ∷ 8 ∷ [])
    ∷ enters (at 8 20 0 1) (given 36 219) (i_word 35 12) 16 8 20 48 0 (49 ∷ 9 ∷ [])
    ∷ enters (at 8 0xFFFFFFFC 64 0) (given 36 219) (i_word 43 12) 16 8 0xFFFFFFFC 48 0 (50 ∷ 8 ∷ [])
    ∷ enters (at 8 20 0 1) (given 36 219) (i_word 43 12) 16 8 20 48 0 (51 ∷ 9 ∷ [])
    ∷ enters (at 8 20 64 0) known (35 * 2 ^ 26 + 64) 16 8 20 64 0 (64 ∷ 8 ∷ [])
    -- [cause 5 trap] the pair behind, EDATA = the immediate
    ∷ enters (at 8 20 masked 0) known (j_word 62 7) 32 20 24 7 1 (8 ∷ [])
    ∷ enters (at 8 20 0 1) known (j_word 62 7) 32 20 24 7 0 (9 ∷ [])
    ∷ enters (at 8 0xFFFFFFFC 64 0) known (j_word 62 7) 32 0xFFFFFFFC 0 7 1 (8 ∷ [])
    -- [order of causes] mal of DPC before pff and before ill; mal of a data address before pfls; a data address never overflows
    ∷ enters (at 50 20 64 0) known 0 4 50 20 95 0 []
    ∷ enters (at 10 20 64 1) known (j_word 63 0) 4 10 20 95 0 []
    ∷ enters (at 8 20 64 0) (given 49 219) (i_word 35 12) 4 8 20 95 0 (8 ∷ [])
    ∷ enters (at 8 20 64 0) (given 49 219) (i_word 43 12) 4 8 20 95 0 (8 ∷ [])
    ∷ enters (at 8 20 64 0) (given 0x7FFFFFFC 219) (i_word 35 12) 16 8 20 0x80000008 0 (0x80000008 ∷ 8 ∷ [])
    ∷ enters (at 8 20 64 0) (given 0x7FFFFFFC 219) (i_word 43 12) 16 8 20 0x80000008 0 (0x8000000A ∷ 8 ∷ [])
    -- [level] the lowest set bit
    ∷ same (level_of 1 ∷ level_of 2 ∷ level_of 4 ∷ level_of 8 ∷ level_of 16 ∷ level_of 32 ∷ level_of 64 ∷ []) (0 ∷ 1 ∷ 2 ∷ 3 ∷ 4 ∷ 5 ∷ 6 ∷ [])
    ∷ same (level_of 96 ∷ level_of 126 ∷ level_of 0x80000000 ∷ level_of 0xC0000000 ∷ level_of 0 ∷ []) (5 ∷ 1 ∷ 31 ∷ 30 ∷ 32 ∷ [])
    ∷ same (level_of 8192 ∷ level_of 8224 ∷ level_of 8256 ∷ level_of 8194 ∷ []) (13 ∷ 5 ∷ 6 ∷ 1 ∷ [])
    ∷ []

unfoldable pub overflowing : List Bool
overflowing =
    -- [cause 6 ovf] of add, addi, sub, subi: the result is not written, EDATA kept, the pair behind
    overflows (r_word 32) 0x7FFFFFFF 1
    ∷ overflows (r_word 32) 0x40000000 0x40000000
    ∷ overflows (r_word 32) 0x80000000 0xFFFFFFFF
    ∷ overflows (r_word 34) 0x80000000 1
    ∷ overflows (r_word 34) 0x7FFFFFFF 0xFFFFFFFF
    ∷ overflows (r_word 34) 0 0x80000000
    ∷ overflows (i_word 8 1) 0x7FFFFFFF 219
    ∷ overflows (i_word 8 0xFFFF) 0x80000000 219
    ∷ overflows (i_word 10 1) 0x80000000 219
    ∷ overflows (i_word 10 0xFFFF) 0x7FFFFFFF 219
    ∷ enters (at 8 0xFFFFFFFC 64 0) (given 0x7FFFFFFF 1) (r_word 32) 64 0xFFFFFFFC 0 95 0 (8 ∷ [])
    ∷ enters (at 8 20 0xFFFFFFFF 1) (given 0x7FFFFFFF 1) (r_word 32) 64 20 24 95 0 (9 ∷ [])
    -- to register 0 too
    ∷ enters (at 8 20 64 0) (given 0x7FFFFFFF 1) (8 * 2 ^ 26 + 21 * 2 ^ 21 + 1) 64 20 24 95 0 (8 ∷ [])
    -- [ovf at the limits] results of 2^31 - 1 and -2^31 are inside
    ∷ by_function 32 0x3FFFFFFF 0x40000000 0x7FFFFFFF
    ∷ by_function 32 0xC0000000 0xC0000000 0x80000000
    ∷ by_function 34 0x3FFFFFFF 0xC0000000 0x7FFFFFFF
    ∷ by_function 34 0xFFFFFFFF 0x7FFFFFFF 0x80000000
    ∷ by_function 34 0xFFFFFFFF 0x80000000 0x7FFFFFFF
    -- [ovf masked] by SR bit 6 alone: the wrapped result is written, ECA is left alone
    ∷ wraps (r_word 32) 0x7FFFFFFF 5 0x80000004
    ∷ wraps (r_word 32) 0x80000003 0xFFFFFFF8 0x7FFFFFFB
    ∷ wraps (r_word 34) 0x80000003 8 0x7FFFFFFB
    ∷ wraps (r_word 34) 0x7FFFFFFF 0xFFFFFFFB 0x80000004
    ∷ wraps (i_word 8 5) 0x7FFFFFFF 219 0x80000004
    ∷ wraps (i_word 8 0xFFF8) 0x80000003 219 0x7FFFFFFB
    ∷ wraps (i_word 10 8) 0x80000003 219 0x7FFFFFFB
    ∷ wraps (i_word 10 0xFFFB) 0x7FFFFFFF 219 0x80000004
    ∷ []

-- ---- bytes and half words

-- at 16 stand the bytes FE, 01, 80, 7F, at 20 7A, C5, 13, 80: at each place a positive one and a negative one
abbrev packed : ℕ → List ℕ
packed w = set (set (around w) 4 0x7F8001FE) 5 0x8013C57A

-- one step of the word w at address 8, with those words
unfoldable pub packing : Processor → List ℕ → ℕ → Outcome × Watched
packing p rs w = step watched (reply 0 77) (core p rs 3 still, record { table = tables; words = packed w; seen = [] })

-- RS1 is x, and RD a word whose bytes differ
abbrev holding : ℕ → List ℕ
holding x = set (given x 219) 27 0x89ABCDEF

-- a load by an opcode, where RS1 is x, reaches the address a: RD becomes v
unfoldable pub brings : ℕ → ℕ → ℕ → ℕ → ℕ → ℕ → Bool
brings mode op x i a v =
    leaves (packing (at 8 20 64 mode) (given x 219) (i_word op i)) (numbers (at 20 24 64 mode)) 97 98 0 ((a + mode) ∷ (8 + mode) ∷ [])
    (set (given x 219) 27 v) (packed (i_word op i))

-- a store likewise: word j becomes v
unfoldable pub lays : ℕ → ℕ → ℕ → ℕ → ℕ → ℕ → ℕ → Bool
lays mode op x i a j v =
    leaves (packing (at 8 20 64 mode) (holding x) (i_word op i)) (numbers (at 20 24 64 mode)) 97 98 0 ((a + 2 + mode) ∷ (8 + mode) ∷ []) (holding x)
    (set (packed (i_word op i)) j v)

unfoldable pub bytes : List Bool
bytes =
    -- [lb] RD = the byte at RS1 + imm, its sign extended, at each place of a word, positive and negative; the offset may be negative, and the sum wraps
    brings 0 32 16 0 16 0xFFFFFFFE
    ∷ brings 1 32 16 1 17 0x00000001
    ∷ brings 0 32 16 2 18 0xFFFFFF80
    ∷ brings 1 32 16 3 19 0x0000007F
    ∷ brings 0 32 16 4 20 0x0000007A
    ∷ brings 1 32 16 5 21 0xFFFFFFC5
    ∷ brings 0 32 16 6 22 0x00000013
    ∷ brings 1 32 16 7 23 0xFFFFFF80
    ∷ brings 0 32 64 0xFFD1 17 0x00000001
    ∷ brings 1 32 0xFFFFFFFD 21 18 0xFFFFFF80
    -- [lbu] likewise, with zeros
    ∷ brings 0 36 16 0 16 0x000000FE
    ∷ brings 1 36 16 1 17 0x00000001
    ∷ brings 0 36 16 2 18 0x00000080
    ∷ brings 1 36 16 3 19 0x0000007F
    ∷ brings 0 36 16 4 20 0x0000007A
    ∷ brings 1 36 16 5 21 0x000000C5
    ∷ brings 0 36 16 6 22 0x00000013
    ∷ brings 1 36 16 7 23 0x00000080
    ∷ []

unfoldable pub halves : List Bool
halves =
    -- [lh] RD = the half word at RS1 + imm, its sign extended from bit 15, at both places, positive with bit 7 set and negative with it clear
    brings 0 33 16 0 16 0x000001FE
    ∷ brings 1 33 16 2 18 0x00007F80
    ∷ brings 0 33 16 4 20 0xFFFFC57A
    ∷ brings 1 33 16 6 22 0xFFFF8013
    ∷ brings 0 33 64 0xFFD2 18 0x00007F80
    ∷ brings 1 33 0xFFFFFFFE 22 20 0xFFFFC57A
    -- [lhu] likewise, with zeros
    ∷ brings 0 37 16 0 16 0x000001FE
    ∷ brings 1 37 16 2 18 0x00007F80
    ∷ brings 0 37 16 4 20 0x0000C57A
    ∷ brings 1 37 16 6 22 0x00008013
    ∷ []

unfoldable pub fields : List Bool
fields =
    -- [sb] the lowest 8 bits of RD to the byte at RS1 + imm, at each place; its neighbours stay
    lays 0 40 16 0 16 4 0x7F8001EF
    ∷ lays 1 40 16 1 17 4 0x7F80EFFE
    ∷ lays 0 40 16 2 18 4 0x7FEF01FE
    ∷ lays 1 40 16 3 19 4 0xEF8001FE
    ∷ lays 0 40 16 4 20 5 0x8013C5EF
    ∷ lays 1 40 16 5 21 5 0x8013EF7A
    ∷ lays 0 40 16 6 22 5 0x80EFC57A
    ∷ lays 1 40 16 7 23 5 0xEF13C57A
    ∷ lays 0 40 64 0xFFD1 17 4 0x7F80EFFE
    -- [sh] the lowest 16 bits of RD to the half word, likewise at both places
    ∷ lays 0 41 16 0 16 4 0x7F80CDEF
    ∷ lays 1 41 16 2 18 4 0xCDEF01FE
    ∷ lays 0 41 16 4 20 5 0x8013CDEF
    ∷ lays 1 41 16 6 22 5 0xCDEFC57A
    ∷ lays 1 41 0xFFFFFFFE 20 18 4 0xCDEF01FE
    -- [sw over a word] nothing of the old word stays, and lw brings the whole of it
    ∷ lays 0 43 16 0 16 4 0x89ABCDEF
    ∷ lays 1 43 16 4 20 5 0x89ABCDEF
    ∷ brings 0 35 16 0 16 0x7F8001FE
    ∷ brings 1 35 16 4 20 0x8013C57A
    -- [field of register 0] a byte and a half word stored of it are 0; a load into it is made and vanishes
    ∷ leaves (packing (at 8 20 64 0) known (40 * 2 ^ 26 + 17)) (numbers (at 20 24 64 0)) 97 98 0 (19 ∷ 8 ∷ []) known
    (set (packed (40 * 2 ^ 26 + 17)) 4 0x7F8000FE)
    ∷ leaves (packing (at 8 20 64 0) known (41 * 2 ^ 26 + 18)) (numbers (at 20 24 64 0)) 97 98 0 (20 ∷ 8 ∷ []) known
    (set (packed (41 * 2 ^ 26 + 18)) 4 0x000001FE)
    ∷ leaves (packing (at 8 20 64 0) known (32 * 2 ^ 26 + 17)) (numbers (at 20 24 64 0)) 97 98 0 (17 ∷ 8 ∷ []) known (packed (32 * 2 ^ 26 + 17))
    ∷ leaves (packing (at 8 20 64 0) known (33 * 2 ^ 26 + 18)) (numbers (at 20 24 64 0)) 97 98 0 (18 ∷ 8 ∷ []) known (packed (33 * 2 ^ 26 + 18))
    ∷ leaves (packing (at 8 20 64 0) known (36 * 2 ^ 26 + 19)) (numbers (at 20 24 64 0)) 97 98 0 (19 ∷ 8 ∷ []) known (packed (36 * 2 ^ 26 + 19))
    ∷ leaves (packing (at 8 20 64 0) known (37 * 2 ^ 26 + 20)) (numbers (at 20 24 64 0)) 97 98 0 (20 ∷ 8 ∷ []) known (packed (37 * 2 ^ 26 + 20))
    ∷ []

unfoldable pub field_causes : List Bool
field_causes =
    -- [half word misaligned] at places 1 and 3 mal, with no access, EDATA kept; a byte never is
    enters (at 8 20 masked 0) (given 16 219) (i_word 33 1) 4 8 20 95 0 (8 ∷ [])
    ∷ enters (at 8 20 0 1) (given 16 219) (i_word 33 3) 4 8 20 95 0 (9 ∷ [])
    ∷ enters (at 8 0xFFFFFFFC 64 0) (given 16 219) (i_word 37 1) 4 8 0xFFFFFFFC 95 0 (8 ∷ [])
    ∷ enters (at 8 20 masked 0) (given 16 219) (i_word 37 3) 4 8 20 95 0 (8 ∷ [])
    ∷ enters (at 8 20 0 1) (given 16 219) (i_word 41 1) 4 8 20 95 0 (9 ∷ [])
    ∷ enters (at 8 0xFFFFFFFC 64 0) (given 16 219) (i_word 41 3) 4 8 0xFFFFFFFC 95 0 (8 ∷ [])
    -- [pfls of a field] the old pair, EDATA = the byte address, odd ones too
    ∷ enters (at 8 20 masked 0) (given 36 219) (i_word 32 13) 16 8 20 49 0 (49 ∷ 8 ∷ [])
    ∷ enters (at 8 20 0 1) (given 36 219) (i_word 32 15) 16 8 20 51 0 (52 ∷ 9 ∷ [])
    ∷ enters (at 8 0xFFFFFFFC 64 0) (given 36 219) (i_word 36 14) 16 8 0xFFFFFFFC 50 0 (50 ∷ 8 ∷ [])
    ∷ enters (at 8 20 masked 0) (given 36 219) (i_word 36 17) 16 8 20 53 0 (53 ∷ 8 ∷ [])
    ∷ enters (at 8 20 0 1) (given 36 219) (i_word 33 14) 16 8 20 50 0 (51 ∷ 9 ∷ [])
    ∷ enters (at 8 0xFFFFFFFC 64 0) (given 36 219) (i_word 33 12) 16 8 0xFFFFFFFC 48 0 (48 ∷ 8 ∷ [])
    ∷ enters (at 8 20 masked 0) (given 36 219) (i_word 37 18) 16 8 20 54 0 (54 ∷ 8 ∷ [])
    ∷ enters (at 8 20 0 1) (given 36 219) (i_word 37 16) 16 8 20 52 0 (53 ∷ 9 ∷ [])
    ∷ enters (at 8 0xFFFFFFFC 64 0) (given 36 219) (i_word 40 13) 16 8 0xFFFFFFFC 49 0 (51 ∷ 8 ∷ [])
    ∷ enters (at 8 20 masked 0) (given 36 219) (i_word 40 15) 16 8 20 51 0 (53 ∷ 8 ∷ [])
    ∷ enters (at 8 20 0 1) (given 36 219) (i_word 41 14) 16 8 20 50 0 (53 ∷ 9 ∷ [])
    ∷ enters (at 8 0xFFFFFFFC 64 0) (given 36 219) (i_word 41 12) 16 8 0xFFFFFFFC 48 0 (50 ∷ 8 ∷ [])
    -- [load of a field to register 0 that faults] likewise
    ∷ enters (at 8 20 64 0) known (32 * 2 ^ 26 + 65) 16 8 20 65 0 (65 ∷ 8 ∷ [])
    ∷ enters (at 8 20 64 1) known (33 * 2 ^ 26 + 66) 16 8 20 66 0 (67 ∷ 9 ∷ [])
    ∷ enters (at 8 20 64 0) known (36 * 2 ^ 26 + 67) 16 8 20 67 0 (67 ∷ 8 ∷ [])
    ∷ enters (at 8 20 64 1) known (37 * 2 ^ 26 + 70) 16 8 20 70 0 (71 ∷ 9 ∷ [])
    -- [order of causes of a field] mal before pfls: a half word at an odd address outside
    ∷ enters (at 8 20 64 0) (given 36 219) (i_word 33 13) 4 8 20 95 0 (8 ∷ [])
    ∷ enters (at 8 20 64 1) (given 36 219) (i_word 37 13) 4 8 20 95 0 (9 ∷ [])
    ∷ enters (at 8 20 64 0) (given 36 219) (i_word 41 13) 4 8 20 95 0 (8 ∷ [])
    ∷ []

-- ---- the latest translation fault: 3 before the step; here a read outside fails by 5, and a write outside by 6

unfoldable pub latest : Processor → List ℕ → ℕ → ℕ
latest p rs w = (tried p rs w).0.core.fault

unfoldable pub latests : List Bool
latests =
    -- [fault: latest] of a fetch, a load, a load to register 0, a store, a byte loaded and one stored
    same
    (latest (at 48 20 64 0) known 0 ∷ latest (at 8 20 0 1) (given 36 219) (i_word 35 12) ∷ latest (at 8 20 64 0) known (35 * 2 ^ 26 + 64)
    ∷ latest (at 8 20 64 0) (given 36 219) (i_word 43 12) ∷ latest (at 8 20 64 1) (given 36 219) (i_word 36 13) ∷ latest (at 8 20 64 0) (given 36 219) (i_word 40 13) ∷ [])
    (5 ∷ 5 ∷ 5 ∷ 6 ∷ 5 ∷ 6 ∷ [])
    -- [fault: nothing else] a load and a store that are made; ill, mal of DPC and of a data address outside, trap, ovf; rfe, movi2s to PTO, a ticket taken
    ∷ same
    (latest (at 8 20 64 0) (given 16 219) (i_word 35 12) ∷ latest (at 8 20 64 1) (given 16 219) (i_word 43 12) ∷ latest (at 8 20 64 0) known 0
    ∷ latest (at 50 20 64 0) known 0 ∷ latest (at 8 20 64 0) (given 49 219) (i_word 35 12) ∷ latest (at 8 20 64 0) known (j_word 62 7)
    ∷ latest (at 8 20 64 0) (given 0x7FFFFFFF 1) (r_word 32) ∷ latest (at 8 20 64 0) known (j_word 63 0) ∷ latest (at 8 20 64 0) known (s_word 17 7)
    ∷ latest (at 8 20 64 0) known (j_word 62 257) ∷ [])
    (3 ∷ 3 ∷ 3 ∷ 3 ∷ 3 ∷ 3 ∷ 3 ∷ 3 ∷ 3 ∷ 3 ∷ [])
    ∷ []

-- ---- tickets: trap 256 sends, trap 257 takes

-- registers 1, 2 and 3 are x, y and z, all others 0
abbrev trio : ℕ → ℕ → ℕ → List ℕ
trio x y z = set (both x y) 3 z

-- one step of the word w at address 0, where registers 1, 2 and 3 are 7, 1 and 55, with an answer
unfoldable pub answered : Processor → ℕ → ℕ → ℕ → Outcome × Flat
answered p w code ticket = step flat (reply code ticket) (core p (trio 7 1 55) 3 still, memory (w ∷ []))

-- at DPC and PC, all else of the processor as it was; these are the registers; the guest does not call
unfoldable pub goes_on : Outcome × Flat → ℕ → ℕ → List ℕ → Bool
goes_on m dpc pc rs =
    same (numbers (processor m)) (numbers (at dpc pc 0 0)) && same m.0.core.registers rs && not m.0.calls

-- an ordinary trap with the datum d, the answer being there all the same: it calls in system mode
unfoldable pub ordinary : ℕ → ℕ → ℕ → Bool
ordinary mode w d =
    let m = answered (at 0 4 0 mode) w 0 9 in
    interrupt m 32 4 8 d 0 mode && same m.0.core.registers (trio 7 1 55) && eqb (bool_byte m.0.calls) (1 - mode)

-- what is asked, as numbers
abbrev told : Request → List ℕ
told nothing = 0 ∷ []
told (sends v to) = 1 ∷ v ∷ to ∷ []
told takes = 2 ∷ []

-- by one step of the word w, where registers 1 and 2 are v and to
unfoldable pub asking : ℕ → ℕ → ℕ → ℕ → List ℕ
asking mode w v to = told (asked flat (core (at 0 4 0 mode) (both v to) 3 still, memory (w ∷ [])))

unfoldable pub tickets : List Bool
tickets =
    -- 256 asks to send register 1 to the partition numbered in register 2, all 32 bits of it; 257 asks to take; nothing else asks, and no user does
    same (asking 0 0xF8000100 7 0xFFFFFFFF) (1 ∷ 7 ∷ 0xFFFFFFFF ∷ [])
    ∷ same (asking 0 0xF8000100 0xFFFFFFFF 8) (1 ∷ 0xFFFFFFFF ∷ 8 ∷ [])
    ∷ same (asking 0 0xF8000101 7 1) (2 ∷ [])
    ∷ same (asking 0 0xF80000FF 7 1) (0 ∷ [])
    ∷ same (asking 0 0xF8000102 7 1) (0 ∷ [])
    ∷ same (asking 1 0xF8000100 7 1) (0 ∷ [])
    ∷ same (asking 1 0xF8000101 7 1) (0 ∷ [])
    ∷ same (asking 0 0x20010005 7 1) (0 ∷ [])
    -- a send goes on as a plain instruction does; register 3 becomes the answer, and nothing else changes
    ∷ goes_on (answered system_processor 0xF8000100 0 9) 4 8 (trio 7 1 0)
    ∷ goes_on (answered system_processor 0xF8000100 1 9) 4 8 (trio 7 1 1)
    ∷ goes_on (answered system_processor 0xF8000100 2 9) 4 8 (trio 7 1 2)
    ∷ goes_on (answered (at 0 0xFFFFFFFC 0 0) 0xF8000100 0 9) 0xFFFFFFFC 0 (trio 7 1 0)
    -- so does a take: a ticket taken goes to register 1; where none waits register 1 stays
    ∷ goes_on (answered system_processor 0xF8000101 0 9) 4 8 (trio 9 1 0)
    ∷ goes_on (answered system_processor 0xF8000101 3 9) 4 8 (trio 7 1 3)
    ∷ goes_on (answered (at 0 0xFFFFFFFC 0 0) 0xF8000101 0 9) 0xFFFFFFFC 0 (trio 9 1 0)
    -- in user mode they are ordinary traps, and so are all other immediates, in either mode
    ∷ ordinary 1 0xF8000100 256
    ∷ ordinary 1 0xF8000101 257
    ∷ ordinary 0 0xF80000FF 255
    ∷ ordinary 0 0xF8000102 258
    ∷ ordinary 0 0xF8010100 0x00010100
    ∷ ordinary 0 0xFA000101 0xFE000101
    ∷ []

-- ---- the timer

-- SR with bits 6 and 13: ovf and the timer unmasked
abbrev open_both : ℕ
open_both = 8256

-- one step of the word w at address 8 with TCOUNT and TLOAD, and this answer to a ticket
unfoldable pub counting : ℕ → ℕ → Reply → Processor → List ℕ → ℕ → Outcome × Watched
counting tcount tload a p rs w =
    step watched a (core p rs 3 (record { tcount = tcount; tload = tload }), record { table = tables; words = around w; seen = [] })

-- the processor that the timer's entry leaves, with what it saves: SR, MODE, DPC, PC and EDATA as the instruction left them
abbrev struck : ℕ → ℕ → ℕ → ℕ → ℕ → List ℕ
struck sr mode dpc pc edata = 0 ∷ 4 ∷ 0 ∷ sr ∷ 8192 ∷ pc ∷ dpc ∷ edata ∷ 0 ∷ mode ∷ []

-- a step of w from DPC 8 and PC 20 that takes TCOUNT to tcount', with TLOAD 94: the processor, the registers and the words after it
unfoldable pub passing : ℕ → ℕ → ℕ → ℕ → ℕ → List ℕ → List ℕ → List ℕ → List ℕ → List ℕ → Bool
passing tcount tcount' sr mode w rs ps seen rs' ws = leaves_timed tcount' 94 (counting tcount 94 (reply 0 77) (at 8 20 sr mode) rs w) ps 97 98 0 seen rs' ws

-- where it falls from 1
abbrev rings : ℕ → ℕ → ℕ → List ℕ → List ℕ → List ℕ → List ℕ → List ℕ → Bool
rings = passing 1 94

-- where it falls from 5, to which nothing else happens
abbrev falls : ℕ → ℕ → ℕ → List ℕ → List ℕ → List ℕ → List ℕ → List ℕ → Bool
falls = passing 5 4

-- movi2s of x to special n in such a step, SR being 8256: the processor after it, and the timer
unfoldable pub sets : ℕ → ℕ → List ℕ → ℕ → ℕ → Bool
sets n x ps tcount tload =
    leaves_timed tcount tload (counting 1 94 (reply 0 77) (at 8 20 8256 0) (given x 219) (s_word 17 n)) ps 97 98 0 (8 ∷ []) (given x 219) (around (s_word 17 n))

-- a cause in a step from p that takes TCOUNT to tcount', with TLOAD 94: ECA, EDPC, EPC and EDATA, whether the guest calls, and the accesses
unfoldable pub causing : ℕ → ℕ → Processor → List ℕ → ℕ → ℕ → ℕ → ℕ → ℕ → ℕ → List ℕ → Bool
causing tcount tcount' p rs w eca edpc epc edata calls seen =
    leaves_timed tcount' 94 (counting tcount 94 (reply 0 77) p rs w) (0 ∷ 4 ∷ 0 ∷ p.sr ∷ eca ∷ epc ∷ edpc ∷ edata ∷ 0 ∷ p.mode ∷ []) 97 98 calls seen rs (around w)

-- beside the timer's
abbrev beside : Processor → List ℕ → ℕ → ℕ → ℕ → ℕ → ℕ → ℕ → List ℕ → Bool
beside = causing 1 94

-- alone, while TCOUNT falls
abbrev meanwhile : Processor → List ℕ → ℕ → ℕ → ℕ → ℕ → ℕ → ℕ → List ℕ → Bool
meanwhile = causing 5 4

-- a ticket call of w in such a step, answered a: the registers after it
unfoldable pub calling : ℕ → Reply → List ℕ → Bool
calling w a rs' = leaves_timed 94 94 (counting 1 94 a (at 8 20 8192 0) known w) (struck 8192 0 20 24 95) 97 98 0 (8 ∷ []) rs' (around w)

-- rfe at address 0, addi of 1 to register 27 from register 21 elsewhere
abbrev handler : List ℕ
handler = j_word 63 0 ∷ i_word 8 1 ∷ i_word 8 1 ∷ i_word 8 1 ∷ i_word 8 1 ∷ i_word 8 1 ∷ i_word 8 1 ∷ i_word 8 1 ∷ i_word 8 1 ∷ []

-- n steps from DPC 8 and PC 12 with SR, TCOUNT and TLOAD: the timer and the processor after them
unfoldable pub later : ℕ → ℕ → ℕ → ℕ → ℕ → ℕ → List ℕ → Bool
later n sr tcount tload tcount' tload' ps =
    let m = steps watched (λ _. reply 0 77) n (core (at 8 12 sr 0) known 3 (record { tcount = tcount; tload = tload }), record { table = tables; words = handler; seen = [] }) in
    same (m.0.timer.tcount ∷ m.0.timer.tload ∷ numbers m.0.processor) (tcount' ∷ tload' ∷ ps)

unfoldable pub falling : List Bool
falling =
    -- [TCOUNT falls] by one in every step, and not from 0; nothing else comes of it before it reaches 0
    later 1 open_both 5 94 4 94 (numbers (at 12 16 open_both 0))
    ∷ later 3 open_both 5 94 2 94 (numbers (at 20 24 open_both 0))
    ∷ later 3 open_both 0 94 0 94 (numbers (at 20 24 open_both 0))
    -- [TCOUNT is a whole word] whose lower bits alone are 1, or 0
    ∷ later 1 open_both 65537 94 65536 94 (numbers (at 12 16 open_both 0))
    ∷ later 2 open_both 65537 94 65535 94 (numbers (at 16 20 open_both 0))
    ∷ later 1 open_both 0x80000001 94 0x80000000 94 (numbers (at 12 16 open_both 0))
    ∷ later 2 open_both 0x80000001 94 0x7FFFFFFF 94 (numbers (at 16 20 open_both 0))
    ∷ later 1 open_both 0xFFFFFFFF 94 0xFFFFFFFE 94 (numbers (at 12 16 open_both 0))
    -- [TCOUNT falls with a cause] ill, mal of DPC and of data, pff, pfls of a load and a store, trap in both modes, ovf
    ∷ meanwhile (at 8 20 open_both 0) known 0 2 8 20 95 0 (8 ∷ [])
    ∷ meanwhile (at 10 20 open_both 0) known 0 4 10 20 95 0 []
    ∷ meanwhile (at 8 20 open_both 0) (given 17 219) (i_word 35 4) 4 8 20 95 0 (8 ∷ [])
    ∷ meanwhile (at 48 20 open_both 0) known 0 8 48 20 48 0 (48 ∷ [])
    ∷ meanwhile (at 8 20 open_both 1) (given 36 219) (i_word 35 12) 16 8 20 48 0 (49 ∷ 9 ∷ [])
    ∷ meanwhile (at 8 20 open_both 0) (given 36 219) (i_word 43 12) 16 8 20 48 0 (50 ∷ 8 ∷ [])
    ∷ meanwhile (at 8 20 open_both 0) known (j_word 62 7) 32 20 24 7 1 (8 ∷ [])
    ∷ meanwhile (at 8 20 open_both 1) known (j_word 62 7) 32 20 24 7 0 (9 ∷ [])
    ∷ meanwhile (at 8 20 open_both 0) (given 0x7FFFFFFF 1) (r_word 32) 64 20 24 95 0 (8 ∷ [])
    -- [TCOUNT falls at every kind of step] a branch, rfe, a load, a store, movi2s to SR and to PTO, a ticket sent and taken
    ∷ falls open_both 0 (i_word 4 40) (given 0 219) (numbers (at 20 60 open_both 0)) (8 ∷ []) (given 0 219) (around (i_word 4 40))
    ∷ falls open_both 0 (j_word 63 0) known (100 ∷ 96 ∷ 91 ∷ 91 ∷ 92 ∷ 96 ∷ 100 ∷ 95 ∷ 1 ∷ 1 ∷ []) (8 ∷ []) known (around (j_word 63 0))
    ∷ falls open_both 1 (i_word 35 4) (given 16 219) (numbers (at 20 24 open_both 1)) (21 ∷ 9 ∷ []) (set (given 16 219) 27 305) (around (i_word 35 4))
    ∷ falls open_both 0 (i_word 43 4) (given 16 219) (numbers (at 20 24 open_both 0)) (22 ∷ 8 ∷ []) (given 16 219) (set (around (i_word 43 4)) 5 227)
    ∷ falls open_both 0 (s_word 17 0) (given 7 219) (numbers (at 20 24 7 0)) (8 ∷ []) (given 7 219) (around (s_word 17 0))
    ∷ leaves_timed 4 94 (counting 5 94 (reply 0 77) (at 8 20 open_both 0) (given 7 219) (s_word 17 7)) (numbers (at 20 24 open_both 0)) 7 98 0 (1 ∷ 8 ∷ []) (given 7 219) (around (s_word 17 7))
    ∷ falls open_both 0 (j_word 62 256) known (numbers (at 20 24 open_both 0)) (8 ∷ []) (set known 3 0) (around (j_word 62 256))
    ∷ falls open_both 0 (j_word 62 257) known (numbers (at 20 24 open_both 0)) (8 ∷ []) (set (set known 1 77) 3 0) (around (j_word 62 257))
    ∷ []

unfoldable pub timing : List Bool
timing =
    -- [TCOUNT reaches 0] cause 13, and TLOAD again
    later 1 8192 1 94 94 94 (struck 8192 0 12 16 95)
    ∷ later 2 8192 2 94 94 94 (struck 8192 0 16 20 95)
    -- [TLOAD 0] it fires once and stops
    ∷ later 1 open_both 1 0 0 0 (struck open_both 0 12 16 95)
    ∷ later 2 open_both 1 0 0 0 (12 ∷ 16 ∷ 8256 ∷ 8256 ∷ 8192 ∷ 16 ∷ 12 ∷ 95 ∷ 0 ∷ 0 ∷ [])
    ∷ later 5 open_both 1 0 0 0 (24 ∷ 28 ∷ 8256 ∷ 8256 ∷ 8192 ∷ 16 ∷ 12 ∷ 95 ∷ 0 ∷ 0 ∷ [])
    -- [TLOAD 1] it fires at every step that SR lets it: not in the handler, whose SR is 0, and at once behind its rfe
    ∷ later 1 open_both 1 1 1 1 (struck open_both 0 12 16 95)
    ∷ later 2 open_both 1 1 1 1 (12 ∷ 16 ∷ 8256 ∷ 8256 ∷ 8192 ∷ 16 ∷ 12 ∷ 95 ∷ 0 ∷ 0 ∷ [])
    ∷ later 3 open_both 1 1 1 1 (struck open_both 0 16 20 95)
    -- [masked timer] dropped, and not kept; it is loaded again all the same
    ∷ later 1 0xFFFFDFFF 1 94 94 94 (numbers (at 12 16 0xFFFFDFFF 0))
    ∷ later 2 0xFFFFDFFF 1 94 93 94 (numbers (at 16 20 0xFFFFDFFF 0))
    ∷ rings 64 0 (s_word 17 0) (given open_both 219) (numbers (at 20 24 open_both 0)) (8 ∷ []) (given open_both 219) (around (s_word 17 0))
    -- [movs2i of the timer] reads it before the fall
    ∷ leaves_timed 4 94 (counting 5 94 (reply 0 77) (at 8 20 open_both 0) known (s_word 16 10)) (numbers (at 20 24 open_both 0)) 97 98 0 (8 ∷ []) (set known 27 5) (around (s_word 16 10))
    ∷ rings open_both 0 (s_word 16 10) known (struck open_both 0 20 24 95) (8 ∷ []) (set known 27 1) (around (s_word 16 10))
    ∷ rings open_both 0 (s_word 16 11) known (struck open_both 0 20 24 95) (8 ∷ []) (set known 27 94) (around (s_word 16 11))
    -- [movi2s of the timer] sets it behind fall and reload, and 0 raises nothing; the reload is TLOAD before the step
    ∷ leaves_timed 7 94 (counting 5 94 (reply 0 77) (at 8 20 open_both 0) (given 7 219) (s_word 17 10)) (numbers (at 20 24 open_both 0)) 97 98 0 (8 ∷ []) (given 7 219) (around (s_word 17 10))
    ∷ leaves_timed 0 94 (counting 5 94 (reply 0 77) (at 8 20 open_both 0) (given 0 219) (s_word 17 10)) (numbers (at 20 24 open_both 0)) 97 98 0 (8 ∷ []) (given 0 219) (around (s_word 17 10))
    ∷ leaves_timed 4 7 (counting 5 94 (reply 0 77) (at 8 20 open_both 0) (given 7 219) (s_word 17 11)) (numbers (at 20 24 open_both 0)) 97 98 0 (8 ∷ []) (given 7 219) (around (s_word 17 11))
    ∷ sets 10 7 (struck open_both 0 20 24 95) 7 94
    ∷ sets 10 0 (struck open_both 0 20 24 95) 0 94
    ∷ sets 11 7 (struck open_both 0 20 24 95) 94 7
    ∷ []

unfoldable pub ringing : List Bool
ringing =
    -- [cause 13 timer] behind the instruction, in either mode; its whole effect stands, and what it left is saved
    rings 8192 0 (i_word 8 5) known (struck 8192 0 20 24 95) (8 ∷ []) (set known 27 226) (around (i_word 8 5))
    ∷ rings 0xFFFFFFFF 1 (i_word 8 5) known (struck 0xFFFFFFFF 1 20 24 95) (9 ∷ []) (set known 27 226) (around (i_word 8 5))
    -- [13 behind a branch] taken, in a delay slot; and a jump
    ∷ rings 8192 0 (i_word 4 40) (given 0 219) (struck 8192 0 20 60 95) (8 ∷ []) (given 0 219) (around (i_word 4 40))
    ∷ rings 8192 1 (j_word 3 8) known (struck 8192 1 20 28 95) (9 ∷ []) (set known 31 24) (around (j_word 3 8))
    -- [13 behind rfe] the state returned to is saved
    ∷ rings 8192 0 (j_word 63 0) known (struck 91 1 100 96 95) (8 ∷ []) known (around (j_word 63 0))
    -- [13 behind a load or a store]
    ∷ rings 8192 1 (i_word 35 4) (given 16 219) (struck 8192 1 20 24 95) (21 ∷ 9 ∷ []) (set (given 16 219) 27 305) (around (i_word 35 4))
    ∷ rings 8192 0 (i_word 43 4) (given 16 219) (struck 8192 0 20 24 95) (22 ∷ 8 ∷ []) (given 16 219) (set (around (i_word 43 4)) 5 227)
    -- [13 behind movi2s] SR, MODE and EDATA as it left them; ESR, ECA, EPC, EDPC and EMODE are overwritten; a new table stands
    ∷ sets 0 0xFEDCBA98 (struck 0xFEDCBA98 0 20 24 95) 94 94
    ∷ sets 0 0 (struck 0 0 20 24 95) 94 94
    ∷ sets 1 7 (struck open_both 0 20 24 95) 94 94
    ∷ sets 2 7 (struck open_both 0 20 24 95) 94 94
    ∷ sets 3 7 (struck open_both 0 20 24 95) 94 94
    ∷ sets 4 7 (struck open_both 0 20 24 95) 94 94
    ∷ sets 5 0xFEDCBA98 (struck open_both 0 20 24 0xFEDCBA98) 94 94
    ∷ sets 6 1 (struck open_both 1 20 24 95) 94 94
    ∷ sets 9 1 (struck open_both 0 20 24 95) 94 94
    ∷ leaves_timed 94 94 (counting 1 94 (reply 0 77) (at 8 20 open_both 0) (given 7 219) (s_word 17 7)) (struck open_both 0 20 24 95) 7 98 0 (1 ∷ 8 ∷ []) (given 7 219) (around (s_word 17 7))
    -- [13 behind a ticket call] a plain instruction: sent, refused, taken, none waiting
    ∷ calling (j_word 62 256) (reply 0 77) (set known 3 0)
    ∷ calling (j_word 62 256) (reply 1 77) (set known 3 1)
    ∷ calling (j_word 62 256) (reply 2 77) (set known 3 2)
    ∷ calling (j_word 62 257) (reply 0 77) (set (set known 1 77) 3 0)
    ∷ calling (j_word 62 257) (reply 3 77) (set known 3 3)
    ∷ []

unfoldable pub joining : List Bool
joining =
    -- [13 beside a lower cause] the lower one is the level, its rule holds, and both bits stand in ECA
    beside (at 8 20 8192 0) known 0 8194 8 20 95 0 (8 ∷ [])
    ∷ beside (at 10 20 8192 1) known 0 8196 10 20 95 0 []
    ∷ beside (at 8 20 8192 0) (given 17 219) (i_word 35 4) 8196 8 20 95 0 (8 ∷ [])
    ∷ beside (at 48 20 8192 0) known 0 8200 48 20 48 0 (48 ∷ [])
    ∷ beside (at 8 20 8192 1) (given 36 219) (i_word 35 12) 8208 8 20 48 0 (49 ∷ 9 ∷ [])
    ∷ beside (at 8 20 8192 0) (given 36 219) (i_word 43 12) 8208 8 20 48 0 (50 ∷ 8 ∷ [])
    -- a trap calls in system mode, and 256 is an ordinary one in user mode
    ∷ beside (at 8 20 8192 0) known (j_word 62 7) 8224 20 24 7 1 (8 ∷ [])
    ∷ beside (at 8 20 8192 1) known (j_word 62 7) 8224 20 24 7 0 (9 ∷ [])
    ∷ beside (at 8 20 8192 1) known (j_word 62 256) 8224 20 24 256 0 (9 ∷ [])
    -- [13 and ovf] each masked by its own bit; a masked ovf leaves the wrapped result
    ∷ beside (at 8 20 open_both 0) (given 0x7FFFFFFF 1) (r_word 32) 8256 20 24 95 0 (8 ∷ [])
    ∷ beside (at 8 20 64 0) (given 0x7FFFFFFF 1) (r_word 32) 64 20 24 95 0 (8 ∷ [])
    ∷ rings 8192 0 (r_word 32) (given 0x7FFFFFFF 1) (struck 8192 0 20 24 95) (8 ∷ []) (set (given 0x7FFFFFFF 1) 27 0x80000000) (around (r_word 32))
    ∷ rings 0 0 (r_word 32) (given 0x7FFFFFFF 1) (numbers (at 20 24 0 0)) (8 ∷ []) (set (given 0x7FFFFFFF 1) 27 0x80000000) (around (r_word 32))
    -- beside a lower cause a masked one is dropped too
    ∷ beside (at 8 20 64 0) known (j_word 62 7) 32 20 24 7 1 (8 ∷ [])
    ∷ beside (at 8 20 0xFFFFDFFF 0) known 0 2 8 20 95 0 (8 ∷ [])
    ∷ []

-- ---- stretches

-- a desk that writes down what it is asked, the last first; its ticket is the length of what stood there
abbrev clerk : Desk (List ℕ)
clerk t q = (reply 0 (length t), told q ++ t)

-- trap 257, then addi, then trap 7
abbrev three : List ℕ
three = j_word 62 257 ∷ i_word 8 5 ∷ j_word 62 7 ∷ 303 ∷ []

-- trap 257, three times
abbrev takings : List ℕ
takings = j_word 62 257 ∷ j_word 62 257 ∷ j_word 62 257 ∷ []

-- up to k steps more, where 10 are made, from DPC 0 and PC 4
unfoldable pub stretched : ℕ → Stretch Watched (List ℕ)
stretched k =
    stretch_from watched clerk k 10 (core (at 0 4 64 0) known 3 still, record { table = tables; words = three; seen = [] }) (60 ∷ 61 ∷ [])

-- how many are made, whether the last one called, the processor, the accesses, the desk and the registers after them
unfoldable pub ends : ℕ → ℕ → ℕ → List ℕ → List ℕ → List ℕ → List ℕ → Bool
ends k made called ps seen desk rs =
    let e = stretched k in
    same (e.made ∷ bool_byte e.called ∷ []) (made ∷ called ∷ []) && same (numbers e.core.processor) ps && same e.memory.seen seen
    && same e.desk desk && same e.core.registers rs && same e.memory.words three

-- n steps of three takes, answered by the step's number: the code n, the ticket 70 + n; the registers and the accesses
unfoldable pub fed : ℕ → List ℕ → List ℕ → Bool
fed n rs seen =
    let m = steps watched (λ n. reply n (70 + n)) n (core (at 0 4 64 0) known 3 still, record { table = tables; words = takings; seen = [] }) in
    same m.0.registers rs && same m.1.seen seen && same (numbers m.0.processor) (numbers (at (4 * n) (4 * n + 4) 64 0))

unfoldable pub stretches : List Bool
stretches =
    -- [steps] each with the answer of its number
    fed 0 known []
    ∷ fed 1 (set (set known 1 70) 3 0) (0 ∷ [])
    ∷ fed 2 (set (set known 1 70) 3 1) (4 ∷ 0 ∷ [])
    ∷ fed 3 (set (set known 1 70) 3 2) (8 ∷ 4 ∷ 0 ∷ [])
    -- [stretch] up to so many steps, ending early behind a step that calls; each is answered once
    ∷ ends 0 10 0 (numbers (at 0 4 64 0)) [] (60 ∷ 61 ∷ []) known
    ∷ ends 1 11 0 (numbers (at 4 8 64 0)) (0 ∷ []) (2 ∷ 60 ∷ 61 ∷ []) (set (set known 1 2) 3 0)
    ∷ ends 2 12 0 (numbers (at 8 12 64 0)) (4 ∷ 0 ∷ []) (0 ∷ 2 ∷ 60 ∷ 61 ∷ []) (set (set (set known 1 2) 3 0) 27 226)
    ∷ ends 3 13 1 (0 ∷ 4 ∷ 0 ∷ 64 ∷ 32 ∷ 16 ∷ 12 ∷ 7 ∷ 0 ∷ 0 ∷ []) (8 ∷ 4 ∷ 0 ∷ []) (0 ∷ 0 ∷ 2 ∷ 60 ∷ 61 ∷ []) (set (set (set known 1 2) 3 0) 27 226)
    ∷ ends 5 13 1 (0 ∷ 4 ∷ 0 ∷ 64 ∷ 32 ∷ 16 ∷ 12 ∷ 7 ∷ 0 ∷ 0 ∷ []) (8 ∷ 4 ∷ 0 ∷ []) (0 ∷ 0 ∷ 2 ∷ 60 ∷ 61 ∷ []) (set (set (set known 1 2) 3 0) 27 226)
    ∷ []

unfoldable pub all : List Bool → Bool
all [] = true
all (b ∷ bs) = b && all bs
