-- An instruction executed, with no memory in it: from the processor, the table, the timer and the registers to an effect.
use Rattle.std.specs.Prelude.{Bool, false, ◌&&◌, List, ℕ, ◌*◌, ◌%◌, ◌^◌, eqb, get_or, set}
use Rattle.std.specs.Int.Bits.{bit_and, bit_or, bit_xor}
use Rattle.dlx.specs.Choice.{when◌then◌else◌}
use Rattle.dlx.specs.Words.{plus, minus, test_of, sum_overflows, difference_overflows}
use Rattle.dlx.specs.Fields.{aligned, width}
use Rattle.dlx.specs.Processor.{user, special_of, behind}
use Rattle.dlx.specs.Interrupts.{ill, mal, trap, ovf, unmasked}
use Rattle.dlx.specs.declared.partition.Table.{Table}
use Rattle.dlx.specs.declared.partition.Processor.{Processor}
use Rattle.dlx.specs.declared.partition.Timer.{Timer}
use Rattle.dlx.specs.declared.instruction.Operation.{Operation}
use Rattle.dlx.specs.declared.instruction.Operation.TheVariants.{Add, Sub, And, Or, Xor, Test}
use Rattle.dlx.specs.declared.instruction.Instruction.{Instruction}
use Rattle.dlx.specs.declared.instruction.Instruction.TheVariants.{LoadBy, StoreBy, Immediate, Lhgi, Beqz, Bnez, Jr, Jalr, J, Jal, Trap, Rfe, Register, Movs2i, Movi2s, Ill}
use Rattle.dlx.specs.declared.execute.Change.{Change}
use Rattle.dlx.specs.declared.execute.Change.TheVariants.{Plain, Special, Retable, Cause, Return}
use Rattle.dlx.specs.declared.execute.Effect.{Effect}
use Rattle.dlx.specs.declared.execute.Effect.TheVariants.{Done, Load, Store, Send, Take}

-- ---- the 32 registers

abbrev pub reg : List ℕ → ℕ → ℕ
reg r k = get_or r k 0

-- a write to register 0 vanishes
unfoldable pub written : List ℕ → ℕ → ℕ → List ℕ
written r k v = when eqb k 0 then r else set r k v

-- ---- RD from two words

unfoldable pub value_of : Operation → ℕ → ℕ → ℕ
value_of Add x y = plus x y
value_of Sub x y = minus x y
value_of And x y = bit_and x y
value_of Or x y = bit_or x y
value_of Xor x y = bit_xor x y
value_of (Test k) x y = test_of k x y

unfoldable pub overflows_of : Operation → ℕ → ℕ → Bool
overflows_of Add x y = sum_overflows x y
overflows_of Sub x y = difference_overflows x y
overflows_of And x y = false
overflows_of Or x y = false
overflows_of Xor x y = false
overflows_of (Test k) x y = false

-- masked, the wrapped result is written
unfoldable pub operated : Operation → ℕ → ℕ → ℕ → ℕ → ℕ → Effect
operated op d x y sr next =
    when unmasked 6 sr && overflows_of op x y then Done (Cause ovf 0) else Done (Plain d (value_of op x y) next)

-- ---- the table's lines

-- a data address misaligned for its width is mal
unfoldable pub reached : ℕ → ℕ → Effect → Effect
reached o address e = when aligned (width o) address then e else Done (Cause mal 0)

-- a load or a store at the sum of a register and an immediate
unfoldable pub loads : ℕ → ℕ → ℕ → ℕ → Effect
loads o d x i = let a = plus x i in reached o a (Load d a o)

unfoldable pub stores : ℕ → ℕ → ℕ → ℕ → Effect
stores o v x i = let a = plus x i in reached o a (Store o a v)

abbrev pub jumped : ℕ → Effect
jumped target = Done (Plain 0 0 target)

-- register 31 becomes PC + 4
abbrev pub linked : Processor → ℕ → Effect
linked p target = Done (Plain 31 (behind p) target)

-- ill in user mode
abbrev pub in_system : Processor → Effect → Effect
in_system p e = when user p then Done (Cause ill 0) else e

-- special n becomes v: 7 is PTO, 8 PTL
unfoldable pub moved_to : Table → ℕ → ℕ → Change
moved_to t n v =
    when eqb n 7 then Retable (record { pto = v; ptl = t.ptl }) else
    when eqb n 8 then Retable (record { pto = t.pto; ptl = v }) else
    Special n v

-- trap 256 in system mode sends v, register 1, to the partition numbered in register 2, trap 257 takes a ticket; any other is cause 5
unfoldable pub trap_of : Processor → ℕ → ℕ → ℕ → Effect
trap_of p v to i =
    when user p then Done (Cause trap i) else
    when eqb i 256 then Send v to else
    when eqb i 257 then Take else
    Done (Cause trap i)

unfoldable pub effect_of : Processor → Table → Timer → List ℕ → Instruction → Effect
effect_of p t k r (LoadBy o s i d) = loads o d (reg r s) i
effect_of p t k r (StoreBy o s i d) = stores o (reg r d) (reg r s) i
effect_of p t k r (Immediate op d s i) = operated op d (reg r s) i p.sr (behind p)
effect_of p t k r (Lhgi d i) = Done (Plain d (i % 2 ^ 16 * 2 ^ 16) (behind p))
effect_of p t k r (Beqz s i) = jumped (when eqb (reg r s) 0 then plus p.pc i else behind p)
effect_of p t k r (Bnez s i) = jumped (when eqb (reg r s) 0 then behind p else plus p.pc i)
effect_of p t k r (Jr s) = jumped (reg r s)
effect_of p t k r (Jalr s) = linked p (reg r s)
effect_of p t k r (J i) = jumped (plus p.pc i)
effect_of p t k r (Jal i) = linked p (plus p.pc i)
effect_of p t k r (Trap i) = trap_of p (reg r 1) (reg r 2) i
effect_of p t k r Rfe = in_system p (Done Return)
effect_of p t k r (Register op d s s') = operated op d (reg r s) (reg r s') p.sr (behind p)
effect_of p t k r (Movs2i d n) = in_system p (Done (Plain d (special_of p t k n) (behind p)))
effect_of p t k r (Movi2s n s) = in_system p (Done (moved_to t n (reg r s)))
effect_of p t k r Ill = Done (Cause ill 0)
