-- Any value in any place of a house, by the place's index.
use Rattle.std.specs.Prelude.{not, ℕ, ◌+◌, ◌*◌, ◌-◌, ◌/◌, ◌%◌, eqb, ltb, set}
use Rattle.dlx.specs.Choice.{when◌then◌else◌}
use Rattle.dlx.specs.Processor.{with_pages, with_processor, with_table, with_timer, with_counter, with_fault}
use Rattle.dlx.specs.declared.partition.Partition.{Partition}
use Rattle.dlx.specs.declared.partition.Processor.{Processor}
use Rattle.tickets.specs.Queues.{queues}
use Rattle.house.specs.declared.House.{House}
use Rattle.house.specs.House.{all_entries, partition, layout, turn, turn_now, with_layout, with_turn, with_queues, with_frames, with_parts, with_registers, with_shadows}

-- ---- a partition

-- the processor with v in the number of scalar k
abbrev pub in_processor : Processor → ℕ → ℕ → Processor
in_processor p k v = record {
  dpc = when eqb k 1 then v else p.dpc;
  pc = when eqb k 2 then v else p.pc;
  sr = when eqb k 3 then v else p.sr;
  esr = when eqb k 4 then v else p.esr;
  eca = when eqb k 5 then v else p.eca;
  epc = when eqb k 6 then v else p.epc;
  edpc = when eqb k 7 then v else p.edpc;
  edata = when eqb k 8 then v else p.edata;
  mode = when eqb k 9 then v else p.mode;
  emode = when eqb k 12 then v else p.emode;
}

-- each half of the counter keeps the other
unfoldable pub scalar_poked : Partition → ℕ → ℕ → Partition
scalar_poked p k v =
    when eqb k 0 then with_pages p v
    else when eqb k 10 then with_table p (record { pto = v; ptl = p.table.ptl })
    else when eqb k 11 then with_table p (record { pto = p.table.pto; ptl = v })
    else when eqb k 13 then with_counter p (p.counter / 4294967296 * 4294967296 + v)
    else when eqb k 14 then with_counter p (v * 4294967296 + p.counter % 4294967296)
    else when eqb k 15 then with_fault p v
    else when eqb k 16 then with_timer p (record { tcount = v; tload = p.timer.tload })
    else when eqb k 17 then with_timer p (record { tcount = p.timer.tcount; tload = v })
    else with_processor p (in_processor p.processor k v)

-- ---- the house

-- its own numbers
unfoldable pub own_poked : House → ℕ → ℕ → House
own_poked h k v =
    with_layout
    (with_turn h h.running (turn (when eqb k 3 then v else h.current) (when eqb k 4 then v else h.left)))
    (layout (when eqb k 0 then v else h.count) (when eqb k 1 then v else h.q) (when eqb k 2 then v else h.words) h.frames)

-- where the places of the queues, and how many wait in each, begin and end
abbrev tickets_from : ℕ
tickets_from = 2461 + all_entries

abbrev waiting_from : ℕ
waiting_from = tickets_from + 256

abbrev past : ℕ
past = waiting_from + 8

unfoldable pub poked : House → ℕ → ℕ → House
poked h i v =
    when ltb i 5 then own_poked h i v
    else when ltb i 13 then with_turn h (set h.running (i - 5) (not (eqb v 0))) (turn_now h)
    else when ltb i 157 then with_parts h (set h.parts ((i - 13) / 18) (scalar_poked (partition h ((i - 13) / 18)) ((i - 13) % 18) v))
    else when ltb i 413 then with_registers h (set h.regs (i - 157) v)
    else when ltb i 2461 then with_frames h (set h.frames (i - 413) v)
    else when ltb i tickets_from then with_shadows h (set h.shadows (i - 2461) v)
    else when ltb i waiting_from then with_queues h (queues (set h.tickets (i - tickets_from) v) h.waiting)
    else when ltb i past then with_queues h (queues h.tickets (set h.waiting (i - waiting_from) v))
    else h
