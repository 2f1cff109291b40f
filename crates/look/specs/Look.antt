-- What look prints for what a house file comes to: a block of lines for each partition, or the first refusal of the file, of boot, or of run.
use Rattle.std.specs.Prelude.{Bool, List, ◌++◌, ℕ, ◌+◌, ◌*◌, ◌%◌, min, eqb, get_or}
use Rattle.dlx.specs.Choice.{when◌then◌else◌}
use Rattle.dlx.specs.Interrupts.{level_of}
use Rattle.dlx.specs.declared.partition.Partition.{Partition}
use Rattle.dlx.specs.declared.partition.Processor.{Processor}
use Rattle.dlx.specs.declared.partition.Table.{Table}
use Rattle.dlx.specs.declared.partition.Timer.{Timer}
use Rattle.house.specs.House.{partition, runs}
use Rattle.house.specs.Calls.{Answered}
use Rattle.house.specs.declared.House.{House}
use Rattle.decimal.specs.Decimals.{decimal}
use Rattle.decimal.specs.Texts.{ascii, joined}
use Rattle.report.specs.Report.{refusal}

-- a text and the number behind it
unfoldable pub named : List ℕ → ℕ → List ℕ
named name n = name ++ decimal n

-- ---- the tables of words

-- a cause, by its number
unfoldable pub cause_of : ℕ → List ℕ
cause_of level =
    when eqb level 1 then ascii "ill, an illegal instruction" else
    when eqb level 2 then ascii "mal, a misaligned address" else
    when eqb level 3 then ascii "pff, a page fault in fetching" else
    when eqb level 4 then ascii "pfls, a page fault of a load or store" else
    when eqb level 5 then ascii "trap" else
    when eqb level 6 then ascii "ovf, an overflow" else
    when eqb level 13 then ascii "timer, TCOUNT reached 0" else
    ascii "no cause, since ECA was written"

-- a translation fault, by its number
unfoldable pub fault_of : ℕ → List ℕ
fault_of fault =
    when eqb fault 0 then ascii "none" else
    when eqb fault 1 then ascii "1, a page not below PTL" else
    when eqb fault 2 then ascii "2, a page above 1023" else
    when eqb fault 3 then ascii "3, a table entry outside the pages" else
    when eqb fault 4 then ascii "4, a table entry that is not valid" else
    when eqb fault 5 then ascii "5, a page that the guest does not have" else
    when eqb fault 6 then ascii "6, a store to a protected page" else
    ascii "7, an address beyond the pages in system mode"

unfoldable pub state_of : Bool → List ℕ
state_of running = when running then ascii ": running, " else ascii ": stopped, "

unfoldable pub mode_of : ℕ → List ℕ
mode_of mode = when eqb mode 0 then ascii "system mode" else ascii "user mode"

-- ---- a partition's lines

unfoldable pub head_of : ℕ → Bool → Partition → List ℕ
head_of i running p =
    named (ascii "partition ") i
    ++ (state_of running
    ++ (mode_of p.processor.mode
    ++ (named (ascii ", pages ") p.pages
    ++ (named (ascii ", steps ") p.counter
    ++ ascii "\n"))))

unfoldable pub interrupt_of : ℕ → ℕ → List ℕ
interrupt_of eca edata =
    ascii "  latest interrupt: "
    ++ (when eqb eca 0 then ascii "none\n" else cause_of (level_of eca) ++ (named (ascii ", EDATA ") edata ++ ascii "\n"))

unfoldable pub fault_line_of : ℕ → List ℕ
fault_line_of fault = ascii "  latest translation fault: " ++ (fault_of fault ++ ascii "\n")

unfoldable pub saved_of : Processor → List ℕ
saved_of p =
    named (ascii "  DPC ") p.dpc
    ++ (named (ascii ", PC ") p.pc
    ++ (named (ascii ", SR ") p.sr
    ++ (named (ascii ", ESR ") p.esr
    ++ (named (ascii ", ECA ") p.eca
    ++ (named (ascii ", EPC ") p.epc
    ++ (named (ascii ", EDPC ") p.edpc
    ++ ascii "\n"))))))

-- the first register's row ends this line
unfoldable pub specials_of : Processor → Table → Timer → List ℕ
specials_of p t k =
    named (ascii "  EDATA ") p.edata
    ++ (named (ascii ", MODE ") p.mode
    ++ (named (ascii ", PTO ") t.pto
    ++ (named (ascii ", PTL ") t.ptl
    ++ (named (ascii ", EMODE ") p.emode
    ++ (named (ascii ", TCOUNT ") k.tcount
    ++ named (ascii ", TLOAD ") k.tload)))))

-- register j: eight to a row, which begins with the number of its first
unfoldable pub register_of : ℕ → ℕ → List ℕ
register_of j w = when eqb (j % 8) 0 then named (ascii "\n  r") j ++ named (ascii ": ") w else named (ascii " ") w

unfoldable pub registers_from : List ℕ → ℕ → List ℕ
registers_from regs i = joined (λ j. register_of j (get_or regs (i * 32 + j) 0)) 32

unfoldable pub block_of : ℕ → Bool → Partition → List ℕ → List ℕ
block_of i running p regs =
    head_of i running p
    ++ (interrupt_of p.processor.eca p.processor.edata
    ++ (fault_line_of p.fault
    ++ (saved_of p.processor
    ++ (specials_of p.processor p.table p.timer
    ++ (registers_from regs i
    ++ ascii "\n")))))

-- ---- what is printed

-- whose turn it is
unfoldable pub turn_of : ℕ → ℕ → ℕ → ℕ → List ℕ
turn_of count q current left =
    named (ascii "partitions ") count
    ++ (named (ascii ", turn length ") q ++ (named (ascii ", current ") current ++ (named (ascii ", steps left ") left ++ ascii "\n")))

-- a house made by hand with a count above 8 has 8
unfoldable pub look_of : House → List ℕ
look_of h =
    ascii "house: "
    ++ (turn_of h.count h.q h.current h.left ++ joined (λ i. block_of i (runs h i) (partition h i) h.regs) (min h.count 8))

unfoldable pub printed : Answered → List ℕ
printed a = when eqb a.verdict.number 0 then look_of a.world.house else refusal a.verdict
