-- The processor: DPC, PC and the special registers. PTO and PTL stand apart, in the table, TCOUNT and TLOAD in the timer. And the partition around them.
use Rattle.std.specs.Prelude.{Bool, ℕ, ◌%◌, eqb}
use Rattle.dlx.specs.Choice.{when◌then◌else◌}
use Rattle.dlx.specs.Words.{plus}
use Rattle.dlx.specs.declared.partition.Table.{Table}
use Rattle.dlx.specs.declared.partition.Processor.{Processor}
use Rattle.dlx.specs.declared.partition.Timer.{Timer}
use Rattle.dlx.specs.declared.partition.Partition.{Partition}

-- MODE 0 is system, 1 user
abbrev pub user : Processor → Bool
user p = eqb p.mode 1

-- at boot: all registers zero but PC = 4, the timer's too, the step counter 0, no fault yet
abbrev pub fresh_processor : Processor
fresh_processor =
    record { dpc = 0; pc = 4; sr = 0; esr = 0; eca = 0; epc = 0; edpc = 0; edata = 0; mode = 0; emode = 0 }

abbrev pub no_timer : Timer
no_timer = record { tcount = 0; tload = 0 }

abbrev pub fresh_of : ℕ → Partition
fresh_of n =
    record { pages = n; processor = fresh_processor; table = record { pto = 0; ptl = 0 }; timer = no_timer; counter = 0; fault = 0 }

-- A partition made from another one is made by these alone.

abbrev pub with_pages : Partition → ℕ → Partition
with_pages p v = record { pages = v; processor = p.processor; table = p.table; timer = p.timer; counter = p.counter; fault = p.fault }

abbrev pub with_processor : Partition → Processor → Partition
with_processor p v = record { pages = p.pages; processor = v; table = p.table; timer = p.timer; counter = p.counter; fault = p.fault }

abbrev pub with_table : Partition → Table → Partition
with_table p v = record { pages = p.pages; processor = p.processor; table = v; timer = p.timer; counter = p.counter; fault = p.fault }

abbrev pub with_timer : Partition → Timer → Partition
with_timer p v = record { pages = p.pages; processor = p.processor; table = p.table; timer = v; counter = p.counter; fault = p.fault }

abbrev pub with_counter : Partition → ℕ → Partition
with_counter p v = record { pages = p.pages; processor = p.processor; table = p.table; timer = p.timer; counter = v; fault = p.fault }

abbrev pub with_fault : Partition → ℕ → Partition
with_fault p v = record { pages = p.pages; processor = p.processor; table = p.table; timer = p.timer; counter = p.counter; fault = v }

-- the special register of number n, at most 11
unfoldable pub special_of : Processor → Table → Timer → ℕ → ℕ
special_of p t k n =
    when eqb n 0 then p.sr else
    when eqb n 1 then p.esr else
    when eqb n 2 then p.eca else
    when eqb n 3 then p.epc else
    when eqb n 4 then p.edpc else
    when eqb n 5 then p.edata else
    when eqb n 6 then p.mode else
    when eqb n 7 then t.pto else
    when eqb n 8 then t.ptl else
    when eqb n 9 then p.emode else
    when eqb n 10 then k.tcount else
    k.tload

-- special n of the processor becomes v; MODE and EMODE take a value modulo 2
unfoldable pub with_special : Processor → ℕ → ℕ → Processor
with_special p n v = record {
  dpc = p.dpc;
  pc = p.pc;
  sr = when eqb n 0 then v else p.sr;
  esr = when eqb n 1 then v else p.esr;
  eca = when eqb n 2 then v else p.eca;
  epc = when eqb n 3 then v else p.epc;
  edpc = when eqb n 4 then v else p.edpc;
  edata = when eqb n 5 then v else p.edata;
  mode = when eqb n 6 then v % 2 else p.mode;
  emode = when eqb n 9 then v % 2 else p.emode;
}

-- special n of the timer becomes v
unfoldable pub with_count : Timer → ℕ → ℕ → Timer
with_count k n v = record { tcount = when eqb n 10 then v else k.tcount; tload = when eqb n 11 then v else k.tload }

-- DPC' = PC, and PC' = a target
abbrev pub went_to : Processor → ℕ → Processor
went_to p target = record {
  dpc = p.pc;
  pc = target;
  sr = p.sr;
  esr = p.esr;
  eca = p.eca;
  epc = p.epc;
  edpc = p.edpc;
  edata = p.edata;
  mode = p.mode;
  emode = p.emode;
}

-- unless stated, PC' = PC + 4
abbrev pub behind : Processor → ℕ
behind p = plus p.pc 4
