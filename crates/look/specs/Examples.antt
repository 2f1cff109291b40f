-- Worked examples: each some bytes, and the text that they are. proofs/Checked.antt checks them by a single claim.
use Rattle.std.specs.Prelude.{true, false, List, [], ◌∷◌, ℕ, ◌+◌, ◌-◌, ◌^◌}
use Prim.Native.String.{String}
use Rattle.dlx.specs.Processor.{fresh_of}
use Rattle.dlx.specs.declared.partition.Partition.{Partition}
use Rattle.house.specs.Lists.{list_from}
use Rattle.house.specs.House.{no_house, layout, guests, turn, with_layout, with_turn, with_guests}
use Rattle.house.specs.declared.House.{House}
use Rattle.house.specs.Boot.{verdict, booted_house}
use Rattle.house.specs.Turns.{world}
use Rattle.house.specs.Calls.{answered}
use Rattle.look.specs.Look.{head_of, interrupt_of, fault_line_of, look_of, printed}

-- why a partition was interrupted last, by ECA
unfoldable pub interrupts : List (List ℕ × String)
interrupts =
    (interrupt_of 0 7, "  latest interrupt: none\n")
    ∷ (interrupt_of 2 0, "  latest interrupt: ill, an illegal instruction, EDATA 0\n")
    ∷ (interrupt_of 4 0, "  latest interrupt: mal, a misaligned address, EDATA 0\n")
    ∷ (interrupt_of 8 4096, "  latest interrupt: pff, a page fault in fetching, EDATA 4096\n")
    ∷ (interrupt_of 16 8192, "  latest interrupt: pfls, a page fault of a load or store, EDATA 8192\n")
    ∷ (interrupt_of 32 (2 ^ 32 - 1), "  latest interrupt: trap, EDATA 4294967295\n")
    ∷ (interrupt_of 64 0, "  latest interrupt: ovf, an overflow, EDATA 0\n")
    ∷ (interrupt_of 8192 7, "  latest interrupt: timer, TCOUNT reached 0, EDATA 7\n")
    -- the lowest bit counts; the guest wrote ECA
    ∷ (interrupt_of 8224 7, "  latest interrupt: trap, EDATA 7\n")
    ∷ (interrupt_of 72 0, "  latest interrupt: pff, a page fault in fetching, EDATA 0\n")
    ∷ (interrupt_of 1 0, "  latest interrupt: no cause, since ECA was written, EDATA 0\n")
    ∷ (interrupt_of (2 ^ 31) 0, "  latest interrupt: no cause, since ECA was written, EDATA 0\n")
    ∷ []

-- a partition in which every number is another, from this one on
unfoldable pub guest : ℕ → ℕ → ℕ → ℕ → ℕ → Partition
guest from pages eca mode fault = record {
  pages = pages;
  processor = record {
    dpc = from + 1;
    pc = from + 2;
    sr = from + 3;
    esr = from + 4;
    eca = eca;
    epc = from + 6;
    edpc = from + 7;
    edata = from + 8;
    mode = mode;
    emode = from + 10;
  };
  table = record { pto = from + 11; ptl = from + 12 };
  timer = record { tcount = from + 13; tload = from + 14 };
  fault = fault;
  counter = from + 15;
}

-- two of them: 0 is stopped, in user mode; 1 runs, in system mode. Their registers count from 300 on.
unfoldable pub pair : House
pair =
    with_guests (with_turn (with_layout no_house (layout 2 9 2048 [])) (false ∷ true ∷ []) (turn 1 5))
    (guests (guest 100 3 64 1 5 ∷ guest 200 4 16 0 1 ∷ []) (list_from (λ j. 300 + j) 0 64) [])

unfoldable pub lines : List (List ℕ × String)
lines =
    (look_of pair, "house: partitions 2, turn length 9, current 1, steps left 5\npartition 0: stopped, user mode, pages 3, steps 115\n  latest interrupt: ovf, an overflow, EDATA 108\n  latest translation fault: 5, a page that the guest does not have\n  DPC 101, PC 102, SR 103, ESR 104, ECA 64, EPC 106, EDPC 107\n  EDATA 108, MODE 1, PTO 111, PTL 112, EMODE 110, TCOUNT 113, TLOAD 114\n  r0: 300 301 302 303 304 305 306 307\n  r8: 308 309 310 311 312 313 314 315\n  r16: 316 317 318 319 320 321 322 323\n  r24: 324 325 326 327 328 329 330 331\npartition 1: running, system mode, pages 4, steps 215\n  latest interrupt: pfls, a page fault of a load or store, EDATA 208\n  latest translation fault: 1, a page not below PTL\n  DPC 201, PC 202, SR 203, ESR 204, ECA 16, EPC 206, EDPC 207\n  EDATA 208, MODE 0, PTO 211, PTL 212, EMODE 210, TCOUNT 213, TLOAD 214\n  r0: 332 333 334 335 336 337 338 339\n  r8: 340 341 342 343 344 345 346 347\n  r16: 348 349 350 351 352 353 354 355\n  r24: 356 357 358 359 360 361 362 363\n")
    ∷ (fault_line_of 0, "  latest translation fault: none\n")
    ∷ (fault_line_of 1, "  latest translation fault: 1, a page not below PTL\n")
    ∷ (fault_line_of 2, "  latest translation fault: 2, a page above 1023\n")
    ∷ (fault_line_of 3, "  latest translation fault: 3, a table entry outside the pages\n")
    ∷ (fault_line_of 4, "  latest translation fault: 4, a table entry that is not valid\n")
    ∷ (fault_line_of 5, "  latest translation fault: 5, a page that the guest does not have\n")
    ∷ (fault_line_of 6, "  latest translation fault: 6, a store to a protected page\n")
    ∷ (fault_line_of 7, "  latest translation fault: 7, an address beyond the pages in system mode\n")
    ∷ (head_of 7 false (fresh_of 3), "partition 7: stopped, system mode, pages 3, steps 0\n")
    -- a house of one partition at boot; one of none; a refusal
    ∷ (
      look_of (booted_house (1 ∷ []) 2 (1 ∷ []) 2048),
      "house: partitions 1, turn length 2, current 0, steps left 2\npartition 0: running, system mode, pages 1, steps 0\n  latest interrupt: none\n  latest translation fault: none\n  DPC 0, PC 4, SR 0, ESR 0, ECA 0, EPC 0, EDPC 0\n  EDATA 0, MODE 0, PTO 0, PTL 0, EMODE 0, TCOUNT 0, TLOAD 0\n  r0: 0 0 0 0 0 0 0 0\n  r8: 0 0 0 0 0 0 0 0\n  r16: 0 0 0 0 0 0 0 0\n  r24: 0 0 0 0 0 0 0 0\n",
    )
    ∷ (look_of no_house, "house: partitions 0, turn length 0, current 0, steps left 0\n")
    ∷ (printed (answered (verdict 15 24) (world no_house [])), "refused 15 24\n")
    ∷ []
