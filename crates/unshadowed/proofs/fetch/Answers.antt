use Rattle.dlx.proofs.Kept.{instruction_formed}
use Rattle.dlx.specs.Machine.{fetched, executed, after_read}
use Rattle.std.proofs.Common.{eq-eqb, ne_eqb}
use Rattle.unshadowed.proofs.fetch.Goals as goal

-- src/lib.rt:107:9
pub returns-then-dpc-ne0 : goal.returns-then-dpc-ne0
unfolding fetched
returns-then-dpc-ne0 c = simp (ne_eqb _ _ c.if-dpc-ne0.true)

-- src/lib.rt:114:28
pub execute-requires : goal.execute-requires
execute-requires c = record { regs_length = c.requires.regs_length; formed = rw c.read_instruction.ensures (instruction_formed _) }

-- src/lib.rt:92:1
pub returns-in-Err : goal.returns-in-Err
unfolding fetched executed after_read
returns-in-Err c = simp (eq-eqb _ _ c.if-dpc-ne0.false, ← c.load.ensures, c.in-Err.is)

-- src/lib.rt:92:1
pub returns-in-Ok : goal.returns-in-Ok
unfolding fetched executed after_read
returns-in-Ok c = simp (eq-eqb _ _ c.if-dpc-ne0.false, ← c.load.ensures, c.in-Ok.is, c.execute.ensures, c.read_instruction.ensures)
