-- Worked examples, as one list that proofs/Checked.antt checks by a single claim: the request's own, in a house; then boot, turns, the calls and damage. Each
-- row of the rules stands in square brackets, as docs/EXAMPLES.md lists them.
use Rattle.std.specs.Prelude.{Bool, true, false, not, ◌&&◌, List, [], ◌∷◌, ◌++◌, map, ℕ, ◌+◌, ◌-◌, ◌*◌, ◌^◌, eqb, length, get_or, set, take, drop, replicate}
use mir.Val.{bool_byte}
use Rattle.dlx.specs.Processor.{fresh_of, with_processor, with_table, with_timer, with_counter, with_fault}
use Rattle.dlx.specs.Examples.{same}
use Rattle.dlx.specs.Interrupts.{level_of}
use Rattle.dlx.specs.declared.partition.Partition.{Partition}
use Rattle.dlx.specs.declared.partition.Processor.{Processor}
use Rattle.dlx.specs.declared.partition.Timer.{Timer}
use Rattle.addresses.specs.Entries.{entry_of, fault_word, composition_of}
use Rattle.addresses.specs.Walk.{entries}
use Rattle.house.specs.Lists.{list_from}
use Rattle.house.specs.House.{fresh_shadows, no_house, layout, guests, turn, with_layout, with_turn, with_guests, with_queues, with_frames, with_parts, with_registers, with_shadows, partition, registers_of}
use Rattle.house.specs.Damage.{outside_limits, frame_twice, turn_wrong, registers_wrong, shadow_wrong, partition_used, unused_wrong, queues_wrong, damaged}
use Rattle.tickets.specs.Queues.{Queues, queues}
use Rattle.house.specs.Boot.{Verdict, boot_verdict, booted_house}
use Rattle.house.specs.Turns.{World, world, host_step, host_steps, house_at}
use Rattle.house.specs.Calls.{Answered, boot_call, run_verdict, run_call, one_verdict, started, stopped, emptied_house, start_call, stop_call, empty_call, read_verdict, read_out, Read, read_call}
use Rattle.house.specs.declared.House.{House}

abbrev zeros : ℕ → List ℕ
zeros n = replicate n 0

abbrev ones : ℕ → List ℕ
ones n = replicate n 1

-- 0, 1 and on, n of them
abbrev up_to : ℕ → List ℕ
up_to n = list_from (λ i. i) 0 n

-- the frames 1, 2 and on, n of them: frame 0 is the house's
abbrev first_frames : ℕ → List ℕ
first_frames n = list_from (λ i. i + 1) 0 n

-- ---- houses to start from

-- the request's own: one partition of frame 1, turns of 2 steps
unfoldable pub alone : House
alone = booted_house (1 ∷ []) 2 (1 ∷ []) 2048

-- two partitions of one frame each, turns of 5 steps; and the same with nothing running
unfoldable pub two : House
two = booted_house (1 ∷ 1 ∷ []) 5 (1 ∷ 2 ∷ []) 3072

unfoldable pub idle : House
idle = stopped (stopped two 0) 1

-- three partitions of one frame each, turns of 2 steps
unfoldable pub three : House
three = booted_house (1 ∷ 1 ∷ 1 ∷ []) 2 (1 ∷ 2 ∷ 3 ∷ []) 4096

-- partition 0 of frame 2 and partition 1 of frames 3 and 1, turns of 5 steps
unfoldable pub uneven : House
uneven = booted_house (1 ∷ 2 ∷ []) 5 (2 ∷ 3 ∷ 1 ∷ []) 4096

-- seven partitions of one frame each, turns of 5 steps
unfoldable pub seven : House
seven = booted_house (ones 7) 5 (first_frames 7) 8192

-- a memory of n words, each of which tells its place
abbrev word : ℕ → ℕ
word i = 0x50000000 + i

abbrev told : ℕ → List ℕ
told n = list_from word 0 n

-- ---- and what is changed in them

-- with flags, the current partition and its steps left
abbrev turning : House → List Bool → ℕ → ℕ → House
turning h running c l = with_turn h running (turn c l)

abbrev with_sizes : House → ℕ → ℕ → ℕ → List ℕ → House
with_sizes h count q words frames = with_layout h (layout count q words frames)

abbrev with_frame : House → ℕ → ℕ → House
with_frame h j f = with_frames h (set h.frames j f)

abbrev with_part : House → ℕ → Partition → House
with_part h i p = with_parts h (set h.parts i p)

-- at DPC and PC, with SR, MODE and EMODE; what an interrupt saves or keeps is told apart by 91 to 100
abbrev at : ℕ → ℕ → ℕ → ℕ → ℕ → Processor
at dpc pc sr mode emode =
    record { dpc = dpc; pc = pc; sr = sr; esr = 91; eca = 92; epc = 96; edpc = 100; edata = 95; mode = mode; emode = emode }

-- with so many pages, PTO and PTL, and so many steps made
abbrev part : ℕ → Processor → ℕ → ℕ → ℕ → Partition
part pages p pto ptl counter =
    with_counter (with_table (with_processor (fresh_of pages) p) (record { pto = pto; ptl = ptl })) counter

abbrev timer : ℕ → ℕ → Timer
timer tcount tload = record { tcount = tcount; tload = tload }

-- Four partitions of two pages, turns of 9 steps, of which c is current with l left. Every place holds another number; partition 1 has the frames 2 and
-- 1, and no shadow entry is valid. What the examples do not reach of its lists is left out.
abbrev numbered : ℕ → Partition
numbered i =
    with_timer
    (with_fault
    (part 2
    (record {
      dpc = 100 + i;
      pc = 110 + i;
      sr = 120 + i;
      esr = 130 + i;
      eca = 140 + i;
      epc = 150 + i;
      edpc = 160 + i;
      edata = 170 + i;
      mode = 180 + i;
      emode = 190 + i;
    })
    (200 + i) (210 + i) (220 + i))
    (230 + i))
    (timer (240 + i) (250 + i))

abbrev alternate : List Bool
alternate = true ∷ true ∷ false ∷ true ∷ replicate 4 false

unfoldable pub busy : List Bool → ℕ → ℕ → House
busy running c l =
    with_queues
    (with_guests (turning (with_sizes no_house 4 9 3072 (set (set (list_from (λ j. 10000 + j) 0 300) 256 2) 257 1)) running c l)
    (guests (list_from numbered 0 8) (set (list_from (λ j. 1000 + j) 0 128) 32 0) (list_from (λ j. 4096 * (8 + j)) 0 (3 * entries + 32))))
    (queues (list_from (λ j. 40000 + j) 0 64) (list_from (λ j. 4 + j) 0 8))

-- ---- what is looked at

abbrev register : World → ℕ → ℕ
register w k = get_or (registers_of w.house 0) k 0

abbrev counter : House → ℕ → ℕ
counter h i = (partition h i).counter

unfoldable pub pair : World → ℕ → ℕ → Bool
pair w dpc pc = let p = (partition w.house 0).processor in eqb p.dpc dpc && eqb p.pc pc

-- partition 0 was interrupted, with ECA, EDPC, EPC and EDATA
unfoldable pub interrupt : World → ℕ → ℕ → ℕ → ℕ → Bool
interrupt w eca edpc epc edata =
    let p = (partition w.house 0).processor in
    eqb p.eca eca && eqb p.edpc edpc && eqb p.epc epc && eqb p.edata edata
    && eqb p.sr 0 && eqb p.mode 0 && pair w 0 4

-- who is current, with so many steps left
unfoldable pub current : House → ℕ → ℕ → Bool
current h c l = eqb h.current c && eqb h.left l

unfoldable pub answers : Verdict → ℕ → ℕ → Bool
answers v n d = eqb v.number n && eqb v.detail d

-- every number in a house, 10,909 of them

unfoldable pub flags : List Bool → List ℕ
flags [] = []
flags (b ∷ bs) = bool_byte b ∷ flags bs

unfoldable pub fields : List Partition → List ℕ
fields [] = []
fields (p ∷ ps) =
    let c = p.processor in
    p.pages ∷ c.dpc ∷ c.pc ∷ c.sr ∷ c.esr ∷ c.eca ∷ c.epc ∷ c.edpc ∷ c.edata ∷ c.mode ∷ c.emode
    ∷ p.table.pto ∷ p.table.ptl ∷ p.counter ∷ p.fault ∷ p.timer.tcount ∷ p.timer.tload ∷ fields ps

unfoldable pub numbers : House → List ℕ
numbers h =
    h.count ∷ h.q ∷ h.words ∷ h.current ∷ h.left
    ∷ flags h.running ++ (fields h.parts ++ (h.regs ++ (h.frames ++ (h.shadows ++ (h.tickets ++ h.waiting)))))

unfoldable pub same_house : House → House → Bool
same_house h k = same (numbers h) (numbers k)

unfoldable pub same_world : World → House → List ℕ → Bool
same_world w h m = same_house w.house h && same w.memory m

-- ---- the request's examples

-- so many steps of the words 0x20010005 and 0xAC010008
unfoldable pub ran : ℕ → World
ran n = host_steps n (world alone (zeros 1024 ++ (0x20010005 ∷ 0xAC010008 ∷ zeros 1022)))

-- One step of the word w at DPC 8, PC 12, with SR, MODE and the first registers, by partition 0 of `two`. Its page is its table too, and entry 0 leads to it.
unfoldable pub once : ℕ → ℕ → List ℕ → ℕ → World
once sr mode r w =
    host_step
    (world (with_registers (with_part two 0 (part 1 (at 8 12 sr mode 1) 0 1 0)) (r ++ zeros (256 - length r))) (zeros 1024 ++ (0x00000800 ∷ 0 ∷ w ∷ [])))

abbrev system : List ℕ → ℕ → World
system r w = once 0 0 r w

abbrev user : List ℕ → ℕ → World
user r w = once 0 1 r w

-- One step of the word w at address 0, by a user with so many of the frames 3, 1, 4 and 2. Its table is its page 1, PTL is 1,025: 0 leads to page 0, px is
-- the entry e, and so is the word behind the page. Register 1 is 9, register 2 is 4,096·px, and page 3 begins with 77.
unfoldable pub mapped : ℕ → ℕ → ℕ → ℕ → World
mapped pages px e w =
    let h = booted_house (pages ∷ []) 2 (take pages (3 ∷ 1 ∷ 4 ∷ 2 ∷ [])) 5120 in
    host_step
    (world (with_registers (with_part h 0 (part pages (at 0 4 0 1 1) 1 1025 0)) (0 ∷ 9 ∷ 4096 * px ∷ zeros 253))
    (set (set (set (set (set (zeros 5120) 1024 0x00000800) (1024 + px) e) 4096 e) 2048 77) 3072 w))

-- of register 1 at the address in register 2
abbrev lw : ℕ
lw = 0x8C410000

abbrev sw : ℕ
sw = 0xAC410000

unfoldable pub papers : List Bool
papers =
    -- 0x20010005: register 1 = 5; 0xAC010008 after it: byte address 8 holds 5
    eqb (register (ran 1) 1) 5
    ∷ same (read_out (ran 2) 0 8 1 []) (5 ∷ [])
    -- third step above: ill, ECA 2, EDPC 8, EPC 12, 1 step left; 3 steps, mode 0, dpc 0, pc 4 stand in the report
    ∷ interrupt (ran 3) 2 8 12 0
    ∷ current (ran 3).house 0 1
    ∷ eqb (counter (ran 3).house 0) 3
    -- 0xF8000007 in system mode: ECA 32, EDATA 7, turn passes; in user mode it doesn't
    ∷ interrupt (system [] 0xF8000007) 32 12 16 7
    ∷ current (system [] 0xF8000007).house 1 5
    ∷ interrupt (user [] 0xF8000007) 32 12 16 7
    ∷ current (user [] 0xF8000007).house 0 4
    -- 0xFBFFFFFF: EDATA 0xFFFFFFFF
    ∷ interrupt (system [] 0xFBFFFFFF) 32 12 16 0xFFFFFFFF
    -- 0x00221820 with 0x7FFFFFFF and 1: SR 0 gives 0x80000000; SR 64 gives ovf
    ∷ eqb (register (system (0 ∷ 0x7FFFFFFF ∷ 1 ∷ []) 0x00221820) 3) 0x80000000
    ∷ interrupt (once 64 0 (0 ∷ 0x7FFFFFFF ∷ 1 ∷ []) 0x00221820) 64 12 16 95
    ∷ eqb (register (once 64 0 (0 ∷ 0x7FFFFFFF ∷ 1 ∷ []) 0x00221820) 3) 0
    -- 0x1000FFFC at DPC 8, PC 12: DPC 12, PC 8
    ∷ pair (system [] 0x1000FFFC) 12 8
    -- causes 3 and 6 (72): level 3
    ∷ eqb (level_of 72) 3
    -- rfe in user mode: ECA 2
    ∷ interrupt (user [] 0xFC000000) 2 8 12 95
    -- 0x80000000 sls 1: 1
    ∷ eqb (register (system (0 ∷ 0x80000000 ∷ 1 ∷ []) 0x0022182C) 3) 1
    -- entry 0x00003800, 4 pages: page 3
    ∷ eqb (composition_of 0x00003800 4 0) 3
    ∷ eqb (composition_of 0x00003800 4 1) 3
    ∷ eqb (register (mapped 4 1 0x00003800 lw) 1) 77
    ∷ eqb (get_or (mapped 4 1 0x00003800 sw).memory 2048 0) 9
    -- 0x00003C00: load works, store faults
    ∷ eqb (composition_of 0x00003C00 4 0) 3
    ∷ eqb (composition_of 0x00003C00 4 1) fault_word
    ∷ eqb (register (mapped 4 1 0x00003C00 lw) 1) 77
    ∷ interrupt (mapped 4 1 0x00003C00 sw) 16 0 4 0x1000
    ∷ eqb (get_or (mapped 4 1 0x00003C00 sw).memory 2048 0) 77
    -- 3 pages: both fault
    ∷ eqb (composition_of 0x00003C00 3 0) fault_word
    ∷ eqb (composition_of 0x00003C00 3 1) fault_word
    ∷ interrupt (mapped 3 1 0x00003C00 lw) 16 0 4 0x1000
    ∷ interrupt (mapped 3 1 0x00003C00 sw) 16 0 4 0x1000
    -- px 1,023 may pass, 1,024 never
    ∷ eqb (register (mapped 4 1023 0x00003800 lw) 1) 77
    ∷ interrupt (mapped 4 1024 0x00003800 lw) 16 0 4 0x400000
    -- [fault: kept] in the partition's record: px above 1,023, a page that is not there, a protected page; none where a load works
    ∷ same (map (λ w. (partition w.house 0).fault) (mapped 4 1024 0x00003800 lw ∷ mapped 3 1 0x00003C00 sw ∷ mapped 4 1 0x00003C00 sw ∷ mapped 4 1 0x00003C00 lw ∷ [])) (2 ∷ 5 ∷ 6 ∷ 0 ∷ [])
    ∷ []

-- ---- boot

-- of one partition of frame 1, with turns of q steps and a memory of so many words
unfoldable pub plain : ℕ → ℕ → Verdict
plain q words = boot_verdict (1 ∷ []) q (1 ∷ []) words

-- a refused boot returns the house of no partitions, every number in it 0, and the memory as it was
unfoldable pub unbooted : Answered → ℕ → ℕ → List ℕ → Bool
unbooted a n d m =
    answers a.verdict n d && same (numbers a.world.house) (zeros 10909) && same a.world.memory m

unfoldable pub boots : List Bool
boots =
    -- [refusal 1] 8 partitions pass, 9 give 1, and so does none
    answers (boot_verdict (ones 8) 1 (first_frames 8) 9216) 0 0
    ∷ answers (boot_verdict (ones 9) 1 (first_frames 9) 10240) 1 0
    ∷ answers (boot_verdict [] 1 [] 1024) 1 0
    -- [refusal 2] 257 pages give 2, with the first such partition; so do 0 pages, and 1 page passes
    ∷ answers (boot_verdict (1 ∷ 257 ∷ 0 ∷ []) 1 (first_frames 258) 265216) 2 1
    ∷ answers (boot_verdict (1 ∷ 1 ∷ 0 ∷ []) 1 (first_frames 2) 3072) 2 2
    ∷ answers (boot_verdict (0 ∷ 1 ∷ 0 ∷ []) 1 (first_frames 1) 2048) 2 0
    -- [refusal 3] turn length q 1..10,000
    ∷ answers (plain 0 2048) 3 0
    ∷ answers (plain 1 2048) 0 0
    ∷ answers (plain 10000 2048) 0 0
    ∷ answers (plain 10001 2048) 3 0
    -- [refusal 4] 1..1,024 whole frames of 1,024 words: one frame is a memory, in which no partition fits
    ∷ answers (plain 1 0) 4 0
    ∷ answers (plain 1 1023) 4 0
    ∷ answers (plain 1 1024) 6 0
    ∷ answers (plain 1 1025) 4 0
    ∷ answers (plain 1 1536) 4 0
    ∷ answers (plain 1 1048576) 0 0
    ∷ answers (plain 1 1048577) 4 0
    ∷ answers (plain 1 1049600) 4 0
    -- [refusal 5] the frame list's length is the sum of the page counts
    ∷ answers (boot_verdict (2 ∷ 1 ∷ []) 1 (first_frames 2) 5120) 5 0
    ∷ answers (boot_verdict (2 ∷ 1 ∷ []) 1 (first_frames 3) 5120) 0 0
    ∷ answers (boot_verdict (2 ∷ 1 ∷ []) 1 (first_frames 4) 5120) 5 0
    -- [refusal 6] a frame number not below the memory's frames: first such position
    ∷ answers (boot_verdict (3 ∷ []) 1 (2 ∷ 1 ∷ 3 ∷ []) 4096) 0 0
    ∷ answers (boot_verdict (3 ∷ []) 1 (1 ∷ 2 ∷ 7 ∷ []) 2048) 6 1
    ∷ answers (boot_verdict (2 ∷ 1 ∷ []) 1 (2 ∷ 1 ∷ 4 ∷ []) 4096) 6 2
    -- [refusal 16] a list names frame 0: first position that does, of either partition; in a memory of one frame too
    ∷ answers (boot_verdict (4 ∷ []) 1 (2 ∷ 0 ∷ 1 ∷ 0 ∷ []) 3072) 16 1
    ∷ answers (boot_verdict (1 ∷ 2 ∷ []) 1 (2 ∷ 1 ∷ 0 ∷ []) 3072) 16 2
    ∷ answers (boot_verdict (1 ∷ []) 1 (0 ∷ []) 1024) 16 0
    -- [refusal 7] a frame stands twice: smallest position whose frame stood earlier
    ∷ answers (boot_verdict (4 ∷ []) 1 (3 ∷ 5 ∷ 5 ∷ 3 ∷ []) 6144) 7 2
    ∷ answers (boot_verdict (2 ∷ 2 ∷ []) 1 (3 ∷ 5 ∷ 4 ∷ 3 ∷ []) 6144) 7 3
    -- [order: boot] 1 to 6, 16, 7, each before the next and over the whole list
    ∷ answers (boot_verdict (zeros 9) 1 [] 1024) 1 0
    ∷ answers (boot_verdict (1 ∷ 0 ∷ []) 0 (1 ∷ []) 2048) 2 1
    ∷ answers (plain 0 2049) 3 0
    ∷ answers (boot_verdict (1 ∷ []) 1 [] 2049) 4 0
    ∷ answers (boot_verdict (1 ∷ []) 1 (9 ∷ 9 ∷ []) 2048) 5 0
    ∷ answers (boot_verdict (3 ∷ []) 1 (1 ∷ 1 ∷ 9 ∷ []) 2048) 6 2
    ∷ answers (boot_verdict (3 ∷ []) 1 (0 ∷ 1 ∷ 2 ∷ []) 2048) 6 2
    ∷ answers (boot_verdict (4 ∷ []) 1 (1 ∷ 1 ∷ 0 ∷ 0 ∷ []) 2048) 16 2
    -- [refusal: a refused boot] what each leaves
    ∷ unbooted (boot_call [] 1 [] (told 1024)) 1 0 (told 1024)
    ∷ unbooted (boot_call (1 ∷ 0 ∷ []) 1 (1 ∷ []) (told 1024)) 2 1 (told 1024)
    ∷ unbooted (boot_call (1 ∷ []) 0 (1 ∷ []) (told 1024)) 3 0 (told 1024)
    ∷ unbooted (boot_call (1 ∷ []) 1 (1 ∷ []) (told 1023)) 4 0 (told 1023)
    ∷ unbooted (boot_call (1 ∷ []) 1 [] (told 1024)) 5 0 (told 1024)
    ∷ unbooted (boot_call (2 ∷ []) 1 (0 ∷ 1 ∷ []) (told 1024)) 6 1 (told 1024)
    ∷ unbooted (boot_call (2 ∷ []) 1 (1 ∷ 0 ∷ []) (told 2048)) 16 1 (told 2048)
    ∷ unbooted (boot_call (2 ∷ []) 1 (1 ∷ 1 ∷ []) (told 2048)) 7 1 (told 2048)
    -- [turn: boot] all registers zero but PC = 4, all running, partition 0 current with q steps left, and unused places 0
    ∷ (let a = boot_call (2 ∷ 1 ∷ 2 ∷ []) 7 (4 ∷ 2 ∷ 3 ∷ 5 ∷ 1 ∷ []) (told 6144) in
    answers a.verdict 0 0
    && same (numbers a.world.house)
    (3 ∷ 7 ∷ 6144 ∷ 0 ∷ 7 ∷ 1 ∷ 1 ∷ 1 ∷ zeros 5
    ++ (2 ∷ 0 ∷ 4 ∷ zeros 14 ++ (1 ∷ 0 ∷ 4 ∷ zeros 14 ++ (2 ∷ 0 ∷ 4 ∷ zeros 14 ++ (zeros 85 ++ (zeros 256 ++ (4 ∷ 2 ∷ zeros 254 ++ (3 ∷ zeros 255 ++ (5 ∷ 1 ∷ zeros 1534 ++ (fresh_shadows ++ zeros 264))))))))))
    && same a.world.memory (told 6144))
    ∷ []

-- [refusal 2] 256 pages pass
unfoldable pub widest : List Bool
widest = answers (boot_verdict (256 ∷ []) 1 (first_frames 256) 263168) 0 0 ∷ []

-- ---- turns

-- so many steps of `three`, or of it with another state; every word is 0, as behind a list's end, so every step is an interrupt
unfoldable pub after : ℕ → House → House
after n h = (host_steps n (world h [])).house

-- three partitions with turns of q steps, after a trap of the first
unfoldable pub trapped : ℕ → House
trapped q = (host_step (world (booted_house (ones 3) q (first_frames 3) 4096) (zeros 1024 ++ (0xF8000007 ∷ [])))).house

-- six steps of `two`: five of partition 0, and one of partition 1, whose first word is 0x20010005
unfoldable pub six : House
six = (host_steps 6 (world two (zeros 2048 ++ (0x20010005 ∷ [])))).house

-- one step more by a partition that has made n
unfoldable pub counts : ℕ → ℕ
counts n = counter (host_step (world (with_part alone 0 (part 1 (at 0 4 0 0 0) 0 0 n)) [])).house 0

-- One step by partition 1 of `busy`, whose latest fault was 3, with l steps left: at DPC 8 and PC 12 in a mode, of the word w. Its entries 0 and 1 lead to its page 0, and to page 1
-- protected.
abbrev own : ℕ → ℕ → ℕ → ℕ → Processor
own dpc pc mode emode =
    record { dpc = dpc; pc = pc; sr = 64; esr = 91; eca = 92; epc = 96; edpc = 100; edata = 95; mode = mode; emode = emode }

abbrev lent : ℕ → List ℕ
lent w = set (set (set (told 3072) 2048 0x00000800) 2049 0x00001C00) 2050 w

unfoldable pub stepping : ℕ → ℕ → ℕ → World
stepping l mode w = host_step (world (with_part (busy alternate 1 l) 1 (with_fault (part 2 (own 8 12 mode 1) 0 2 500) 3)) (lent w))

-- it comes to this turn, partition 1, registers, shadows and memory, and nothing else is changed
unfoldable pub comes : World → ℕ → ℕ → Processor → List ℕ → List ℕ → List ℕ → Bool
comes w c l p regs shadows m =
    same_world w (house_at (busy alternate 1 0) c l (set (list_from numbered 0 8) 1 (with_fault (part 2 p 0 2 501) 3)) regs shadows) m

-- such a step in system mode with SR 8256, in which its TCOUNT falls from n, with TLOAD 94
unfoldable pub timing : ℕ → ℕ → ℕ → World
timing l n w =
    host_step (world (with_part (busy alternate 1 l) 1 (with_timer (with_fault (part 2 (at 8 12 8256 0 1) 0 2 500) 3) (timer n 94))) (lent w))

unfoldable pub tolls : World → ℕ → ℕ → ℕ → Processor → ℕ → Bool
tolls w c l n p v =
    same_world w (house_at (busy alternate 1 0) c l (set (list_from numbered 0 8) 1 (with_timer (with_fault (part 2 p 0 2 501) 3) (timer n 94))) (busy alternate 1 0).regs (busy alternate 1 0).shadows) (lent v)

unfoldable pub turns : List Bool
turns =
    -- [turn: one step] takes 1 from the steps left
    current (after 1 three) 0 1
    -- [turn: 0 left] it passes to the next running partition in cyclic order, with q left
    ∷ current (after 2 three) 1 2
    ∷ current (after 4 three) 2 2
    ∷ current (after 6 three) 0 2
    ∷ current (after 2 (stopped three 1)) 2 2
    ∷ current (after 4 (stopped three 2)) 0 2
    -- [turn: alone] itself
    ∷ current (ran 2).house 0 2
    ∷ current (after 2 (stopped (stopped three 2) 1)) 0 2
    ∷ current (after 2 (stopped (stopped three 0) 1)) 2 2
    -- [turn: counter] adds 1, also on an interrupt and a trap, modulo 2^64
    ∷ same (counter (after 5 three) 0 ∷ counter (after 5 three) 1 ∷ counter (after 5 three) 2 ∷ []) (2 ∷ 2 ∷ 1 ∷ [])
    ∷ eqb (counter (trapped 2) 0) 1
    ∷ eqb (counts (2 ^ 64 - 2)) (2 ^ 64 - 1)
    ∷ eqb (counts (2 ^ 64 - 1)) 0
    -- [turn: one step] changes nothing of another partition's
    ∷ same (numbers six)
    (2 ∷ 5 ∷ 3072 ∷ 1 ∷ 4 ∷ 1 ∷ 1 ∷ zeros 6
    ++ (1 ∷ 0 ∷ 4 ∷ 0 ∷ 0 ∷ 2 ∷ 4 ∷ 0 ∷ zeros 5 ++ (5 ∷ 0 ∷ 0 ∷ 0 ∷ 1 ∷ 4 ∷ 8 ∷ zeros 10 ++ (1 ∷ zeros 105 ++ (zeros 33 ++ (5 ∷ zeros 222 ++ (1 ∷ zeros 255 ++ (2 ∷ zeros 10247))))))))
    -- in a full house: 0xAC4116B2 stores 1033 at 0x1ABC of partition 1, so in frame 1
    ∷ comes (stepping 5 0 0xAC4116B2) 1 4 (own 12 16 0 1) (busy alternate 1 0).regs (busy alternate 1 0).shadows
    (set (lent 0xAC4116B2) 1711 1033)
    -- [turn: 0 left] 0x8C4516B2 loads it in user mode at the last step: registers and shadow go to the partition that made it
    ∷ comes (stepping 1 1 0x8C4516B2) 3 9 (own 12 16 1 1) (set (busy alternate 1 0).regs 37 (word 1711))
    (set (set (busy alternate 1 0).shadows 1024 0x00002800) 1025 0x00001C00) (lent 0x8C4516B2)
    -- [turn: trap in system mode] passes, once also where it is the last step, and to itself if alone
    ∷ current (trapped 2) 1 2
    ∷ current (trapped 1) 1 1
    ∷ current (host_step (world alone (zeros 1024 ++ (0xF8000007 ∷ [])))).house 0 2
    ∷ comes (stepping 5 0 0xF8000007) 3 9
    (record { dpc = 0; pc = 4; sr = 0; esr = 64; eca = 32; epc = 16; edpc = 12; edata = 7; mode = 0; emode = 0 }) (busy alternate 1 0).regs
    (busy alternate 1 0).shadows (lent 0xF8000007)
    -- [turn: trap in user mode] and any other interrupt: the turn goes on
    ∷ comes (stepping 5 1 0xF8000007) 1 4
    (record { dpc = 0; pc = 4; sr = 0; esr = 64; eca = 32; epc = 16; edpc = 12; edata = 7; mode = 0; emode = 1 }) (busy alternate 1 0).regs
    (set (busy alternate 1 0).shadows 1024 0x00002800) (lent 0xF8000007)
    ∷ comes (stepping 5 0 0) 1 4
    (record { dpc = 0; pc = 4; sr = 0; esr = 64; eca = 2; epc = 12; edpc = 8; edata = 95; mode = 0; emode = 0 }) (busy alternate 1 0).regs
    (busy alternate 1 0).shadows (lent 0)
    -- [timer: own steps] move it, and no other partition's; it ends no turn
    ∷ tolls (timing 5 7 (2 ^ 26 * 5)) 1 4 6 (at 12 16 8256 0 1) (2 ^ 26 * 5)
    ∷ tolls (timing 5 1 (2 ^ 26 * 5)) 1 4 94
    (record { dpc = 0; pc = 4; sr = 0; esr = 8256; eca = 8192; epc = 16; edpc = 12; edata = 95; mode = 0; emode = 0 }) (2 ^ 26 * 5)
    ∷ tolls (timing 1 1 (2 ^ 26 * 5)) 3 9 94
    (record { dpc = 0; pc = 4; sr = 0; esr = 8256; eca = 8192; epc = 16; edpc = 12; edata = 95; mode = 0; emode = 0 }) (2 ^ 26 * 5)
    -- [timer: trap] in system mode beside cause 13: the turn passes
    ∷ tolls (timing 5 1 0xF8000007) 3 9 94
    (record { dpc = 0; pc = 4; sr = 0; esr = 8256; eca = 8224; epc = 16; edpc = 12; edata = 7; mode = 0; emode = 0 }) 0xF8000007
    -- [turn: stopping the current one] passes it likewise
    ∷ current (stopped (after 1 three) 0) 1 2
    ∷ current (stopped (after 5 three) 2) 0 2
    ∷ current (stopped (stopped three 1) 0) 2 2
    ∷ same_house (stopped (busy alternate 1 5) 1) (busy (true ∷ false ∷ false ∷ true ∷ replicate 4 false) 3 9)
    -- [turn: stopping the last one] leaves none current with 0 left
    ∷ current idle 0 0
    ∷ same (flags idle.running) (zeros 8)
    ∷ same_house (stopped (busy (false ∷ true ∷ replicate 6 false) 1 5) 1) (busy (replicate 8 false) 0 0)
    -- [turn: starting when none is current] makes that one current with q left
    ∷ current (started idle 1) 1 5
    ∷ same (flags (started idle 1).running) (0 ∷ 1 ∷ zeros 6)
    ∷ same_house (started (busy (replicate 8 false) 0 0) 2) (busy (false ∷ false ∷ true ∷ replicate 5 false) 2 9)
    -- [turn: stopping another] leaves the steps left
    ∷ current (stopped (after 1 three) 2) 0 1
    ∷ same_house (stopped (busy alternate 1 5) 3) (busy (true ∷ true ∷ replicate 6 false) 1 5)
    -- [turn: starting while one is current] leaves the steps left, and resets neither registers nor counter
    ∷ same_house (started (stopped (after 5 three) 0) 0) (after 5 three)
    ∷ same_house (started (busy alternate 1 5) 2) (busy (replicate 4 true ++ replicate 4 false) 1 5)
    -- [turn: starting a running one]
    ∷ same_house (started (after 1 three) 0) (after 1 three)
    ∷ same_house (started (after 1 three) 2) (after 1 three)
    -- [turn: stopping a stopped one]
    ∷ same_house (stopped (stopped three 1) 1) (stopped three 1)
    ∷ same_house (stopped (busy alternate 1 5) 2) (busy alternate 1 5)
    ∷ same_house (stopped idle 0) idle
    -- [empty: one shadow] one partition's whole shadow, and no other's
    ∷ same_house (emptied_house (with_shadows three (set (set (set (set fresh_shadows 1023 0x1800) 1024 0x2800) 2047 0x2C00) 2048 0x3800)) 1)
    (with_shadows three (set (set fresh_shadows 1023 0x1800) 2048 0x3800))
    ∷ same_house (emptied_house (busy alternate 1 5) 2)
    (with_shadows (busy alternate 1 5) (take 2048 (busy alternate 1 0).shadows ++ (zeros entries ++ drop 3072 (busy alternate 1 0).shadows)))
    ∷ []

-- three partitions with turns of 2 steps, over two rounds
unfoldable pub shares : List Bool
shares =
    -- [turn: shares] each of them makes q steps a round, in the second as in the first
    same (counter (after 12 three) 0 ∷ counter (after 12 three) 1 ∷ counter (after 12 three) 2 ∷ []) (4 ∷ 4 ∷ 4 ∷ [])
    ∷ []

-- ---- the calls

abbrev of_two : World
of_two = world two (zeros 3072)

abbrev of_idle : World
of_idle = world idle (zeros 3072)

-- memories that are not the one at boot
abbrev short : World
short = world two (zeros 3071)

abbrev long : World
long = world two (told 4096)

-- the house of no partitions, with such a memory; and a full house with a wrong q
abbrev nowhere : World
nowhere = world no_house (0 ∷ 0 ∷ 0 ∷ [])

unfoldable pub missized : House
missized = with_sizes (busy alternate 1 5) 4 10001 3072 (busy alternate 1 5).frames

abbrev broken : World
broken = world missized (7 ∷ 8 ∷ 9 ∷ [])

-- a refusal returns the house it was given and writes nothing
unfoldable pub refuses : Answered → ℕ → World → Bool
refuses a n w = answers a.verdict n 0 && same_world a.world w.house w.memory

-- a done call of no detail leaves this house, and the memory as it was
unfoldable pub does : Answered → House → List ℕ → Bool
does a h m = answers a.verdict 0 0 && same_world a.world h m

-- of partition i of `uneven`
unfoldable pub reading : ℕ → ℕ → ℕ → List ℕ → Read
reading i a count out = read_call (world uneven (told 4096)) i a count out

unfoldable pub gives : Read → ℕ → ℕ → List ℕ → Bool
gives r n d out = answers r.verdict n d && same r.output out

unfoldable pub calls : List Bool
calls =
    -- [run: steps done]
    answers (run_call of_two 7).verdict 0 7
    ∷ (let w = host_steps 7 of_two in same_world (run_call of_two 7).world w.house w.memory)
    -- [refusal 14] 1,000,000 steps pass
    ∷ answers (run_verdict of_two 1000000) 0 1000000
    ∷ answers (run_verdict of_two 1000001) 14 0
    -- [refusal 11] 0 steps with nothing running are done, 1 is not
    ∷ answers (run_verdict of_idle 0) 0 0
    ∷ refuses (run_call of_idle 1) 11 of_idle
    -- [refusal 8]
    ∷ refuses (run_call broken 1) 8 broken
    ∷ refuses (start_call broken 2) 8 broken
    ∷ refuses (stop_call broken 1) 8 broken
    ∷ refuses (empty_call broken 1) 8 broken
    -- [refusal 9] a shorter memory, and a longer one
    ∷ answers (run_verdict short 1) 9 0
    ∷ refuses (run_call long 1) 9 long
    -- [order: run] 8, 9, 14, 11
    ∷ answers (run_verdict nowhere 1000001) 8 0
    ∷ answers (run_verdict short 1000001) 9 0
    ∷ answers (run_verdict of_idle 1000001) 14 0
    -- [order: start, stop, empty] 8, 10
    ∷ answers (start_call nowhere 0).verdict 8 0
    ∷ answers (stop_call nowhere 0).verdict 8 0
    ∷ answers (empty_call nowhere 0).verdict 8 0
    -- [refusal 10]
    ∷ refuses (start_call of_two 2) 10 of_two
    ∷ refuses (stop_call of_two 2) 10 of_two
    ∷ refuses (empty_call of_two 2) 10 of_two
    ∷ answers (one_verdict two 1) 0 0
    ∷ answers (one_verdict two 3) 10 0
    ∷ answers (one_verdict two 4294967295) 10 0
    -- [start, stop, empty: done] they never give 9
    ∷ answers (start_call short 1).verdict 0 0
    ∷ answers (stop_call short 1).verdict 0 0
    ∷ answers (empty_call short 1).verdict 0 0
    ∷ does (start_call (world idle (told 5)) 1) (started idle 1) (told 5)
    ∷ does (stop_call (world two (told 5)) 0) (stopped two 0) (told 5)
    ∷ does (empty_call (world two (told 5)) 1) (emptied_house two 1) (told 5)
    -- [order: read-out] 8, 9, 10, 12, 13
    ∷ answers (read_verdict nowhere 0 2 1 []) 8 0
    ∷ answers (read_verdict short 2 2 1 []) 9 0
    ∷ answers (read_verdict of_two 2 2 1 []) 10 0
    ∷ gives (reading 1 2 3 (5 ∷ 6 ∷ [])) 12 0 (5 ∷ 6 ∷ [])
    -- [refusal 8], [refusal 9] and [refusal 10] of a read-out
    ∷ gives (read_call broken 1 0 1 (5 ∷ [])) 8 0 (5 ∷ [])
    ∷ gives (read_call long 1 0 1 (5 ∷ [])) 9 0 (5 ∷ [])
    ∷ gives (reading 2 0 0 (5 ∷ [])) 10 0 (5 ∷ [])
    ∷ gives (reading 9 0 0 (5 ∷ [])) 10 0 (5 ∷ [])
    -- [refusal 13]
    ∷ gives (reading 1 0 3 (5 ∷ 6 ∷ [])) 13 0 (5 ∷ 6 ∷ [])
    -- [read-out: words read] the first count words of the output only, page by page
    ∷ gives (reading 1 0 3 (5 ∷ 6 ∷ 7 ∷ [])) 0 3 (word 3072 ∷ word 3073 ∷ word 3074 ∷ [])
    ∷ gives (reading 1 4 2 (5 ∷ 6 ∷ 7 ∷ 8 ∷ [])) 0 2 (word 3073 ∷ word 3074 ∷ 7 ∷ 8 ∷ [])
    ∷ gives (reading 1 4092 2 (5 ∷ 6 ∷ 7 ∷ [])) 0 2 (word 4095 ∷ word 1024 ∷ 7 ∷ [])
    ∷ gives (reading 0 4092 1 (5 ∷ 6 ∷ [])) 0 1 (word 3071 ∷ 6 ∷ [])
    ∷ same_house (reading 1 4 2 (5 ∷ 6 ∷ [])).house uneven
    ∷ same_house (read_call broken 1 0 1 []).house broken.house
    -- [refusal 12] address not a multiple of 4, or address + 4 × count above 4,096 × the page count; count 0 is allowed
    ∷ gives (reading 1 8188 1 (5 ∷ [])) 0 1 (word 2047 ∷ [])
    ∷ gives (reading 1 8188 2 (5 ∷ 6 ∷ [])) 12 0 (5 ∷ 6 ∷ [])
    ∷ gives (reading 1 8192 0 (5 ∷ [])) 0 0 (5 ∷ [])
    ∷ gives (reading 1 8192 1 (5 ∷ [])) 12 0 (5 ∷ [])
    ∷ gives (reading 1 8196 0 (5 ∷ [])) 12 0 (5 ∷ [])
    ∷ gives (reading 0 4096 1 (5 ∷ [])) 12 0 (5 ∷ [])
    ∷ gives (reading 1 1 0 (5 ∷ [])) 12 0 (5 ∷ [])
    ∷ gives (reading 1 2 0 (5 ∷ [])) 12 0 (5 ∷ [])
    -- unwrapped
    ∷ gives (reading 1 4294967292 1 (5 ∷ [])) 12 0 (5 ∷ [])
    ∷ gives (reading 1 4 (2 ^ 64 - 1) (5 ∷ [])) 12 0 (5 ∷ [])
    ∷ []

-- ---- damage: houses with one thing changed, by each condition

abbrev with_turns : List Bool → ℕ → ℕ → House
with_turns running c l = turning two running c l

abbrev with_register : ℕ → ℕ → House
with_register j x = with_registers two (set (zeros 256) j x)

abbrev with_entry : ℕ → ℕ → House
with_entry j e = with_shadows two (set fresh_shadows j e)

-- a count or frame outside boot's limits; and houses at their limits
unfoldable pub beyond : List House
beyond =
    -- [damage: count]
    with_sizes two 0 5 3072 two.frames
    ∷ with_sizes two 9 5 3072 two.frames
    ∷ with_sizes (house_at two 0 5 (replicate 9 (fresh_of 1)) two.regs two.shadows) 9 5 3072 two.frames
    -- [damage: pages]
    ∷ with_part two 0 (fresh_of 0)
    ∷ with_part two 1 (fresh_of 0)
    ∷ with_part two 1 (fresh_of 257)
    -- [damage: q]
    ∷ with_sizes idle 2 0 3072 idle.frames
    ∷ with_sizes two 2 10001 3072 two.frames
    -- [damage: words]
    ∷ with_sizes two 2 5 0 two.frames
    ∷ with_sizes two 2 5 3073 two.frames
    ∷ with_sizes two 2 5 1049600 two.frames
    -- [damage: frame outside] of either partition, and of a later page
    ∷ with_frame two 0 3
    ∷ with_frame two 256 3
    ∷ with_frame uneven 257 4
    -- [damage: frame 0] in either partition's list, and at a later page
    ∷ with_frame two 0 0
    ∷ with_frame two 256 0
    ∷ with_frame uneven 257 0
    ∷ []

unfoldable pub within : List House
within =
    booted_house (ones 8) 10000 (first_frames 8) 1048576
    ∷ booted_house (1 ∷ []) 1 (1 ∷ []) 2048
    ∷ with_sizes (with_part alone 0 (fresh_of 256)) 1 5 263168 (first_frames 256 ++ zeros 1792)
    ∷ with_frame uneven 257 3
    ∷ []

-- a frame twice; and none twice, though unused places are alike
unfoldable pub twice : List House
twice =
    -- [damage: frame twice across partitions] neighbours, and not
    with_frame two 256 1
    ∷ with_frame uneven 257 2
    ∷ with_frame three 512 1
    -- [damage: frame twice within one]
    ∷ booted_house (2 ∷ []) 5 (1 ∷ 1 ∷ []) 2048
    ∷ booted_house (1 ∷ 3 ∷ []) 5 (3 ∷ 1 ∷ 2 ∷ 1 ∷ []) 4096
    ∷ []

unfoldable pub once_each : List House
once_each = uneven ∷ three ∷ []

-- the turn
unfoldable pub out_of_turn : List House
out_of_turn =
    -- [damage: current not running] or not there
    with_turns (false ∷ true ∷ replicate 6 false) 0 5
    ∷ with_turns (true ∷ replicate 7 false) 1 5
    ∷ with_turns two.running 2 5
    ∷ with_turns (replicate 8 true) 2 5
    -- [damage: none current while one runs]
    ∷ with_turns two.running 0 0
    ∷ with_turns (false ∷ true ∷ replicate 6 false) 0 0
    -- [damage: steps left] above q
    ∷ with_turns two.running 0 6
    ∷ with_turns two.running 1 10000
    -- [damage: none current with another index than 0]
    ∷ turning idle idle.running 1 0
    ∷ []

unfoldable pub in_turn : List House
in_turn =
    with_turns two.running 0 5
    ∷ with_turns two.running 1 1
    ∷ with_turns (false ∷ true ∷ replicate 6 false) 1 5
    ∷ idle
    ∷ []

-- registers, MODE and EMODE
unfoldable pub misset : List House
misset =
    -- [damage: register 0] of either partition
    with_register 0 1
    ∷ with_register 32 2
    -- [damage: MODE]
    ∷ with_part two 0 (part 1 (at 0 4 0 2 0) 0 0 0)
    ∷ with_part two 1 (part 1 (at 0 4 0 2 1) 0 0 0)
    -- [damage: fault] above 7, of either partition
    ∷ with_part two 0 (with_fault (fresh_of 1) 8)
    ∷ with_part two 1 (with_fault (fresh_of 1) 4294967295)
    -- [damage: EMODE]
    ∷ with_part two 0 (part 1 (at 0 4 0 0 2) 0 0 0)
    ∷ with_part two 1 (part 1 (at 0 4 0 1 2) 0 0 0)
    ∷ []

unfoldable pub set_right : List House
set_right =
    with_register 1 1
    ∷ with_register 31 9
    ∷ with_register 63 9
    ∷ with_part two 1 (part 1 (at 0 4 0 1 0) 0 0 0)
    ∷ with_part two 1 (part 1 (at 0 4 0 0 1) 0 0 0)
    ∷ with_part two 1 (with_fault (fresh_of 1) 7)
    -- [timer in a used partition] any value
    ∷ with_part two 0 (with_timer (fresh_of 1) (timer 1 0))
    ∷ with_part two 1 (with_timer (fresh_of 1) (timer 4294967295 4294967295))
    ∷ []

-- shadow entries
unfoldable pub astray : List House
astray =
    -- [damage: shadow entry's frame] of another partition, of none, and what stands in an unused place
    with_entry 2047 (entry_of 1 0)
    ∷ with_entry 2047 (entry_of 3 1)
    ∷ with_entry 2047 (entry_of 0 0)
    -- [damage: stray bits 9..0]
    ∷ with_entry 2047 (entry_of 2 0 + 1)
    ∷ with_entry 2047 (entry_of 2 1 + 512)
    -- [damage: entry not empty and not valid]
    ∷ with_entry 2047 1
    ∷ with_entry 2047 1024
    ∷ with_entry 2047 0x00001000
    ∷ []

-- a place with 1 for its k-th number
abbrev one : ℕ → ℕ → ℕ
one k j = bool_byte (eqb k j)

unfoldable pub used : ℕ → Partition
used k =
    with_timer
    (with_fault
    (part (one k 0)
    (record {
      dpc = one k 1;
      pc = one k 2;
      sr = one k 3;
      esr = one k 4;
      eca = one k 5;
      epc = one k 6;
      edpc = one k 7;
      edata = one k 8;
      mode = one k 9;
      emode = one k 10;
    })
    (one k 11) (one k 12) (one k 13))
    (one k 14))
    (timer (one k 15) (one k 16))

-- each by its own condition; and each is damage
unfoldable pub damages : List Bool
damages =
    map (λ k. partition_used (used k)) (up_to 17)
    ++ (not (partition_used (used 17))
    ∷ map outside_limits beyond
    ++ (map (λ h. not (outside_limits h)) within
    ++ (map frame_twice twice
    ++ (map (λ h. not (frame_twice h)) once_each
    ++ (map turn_wrong out_of_turn
    ++ (map (λ h. not (turn_wrong h)) in_turn
    ++ (map registers_wrong misset
    ++ (map (λ h. not (registers_wrong h)) set_right
    ++ (map shadow_wrong astray
    ++ map damaged (beyond ++ (twice ++ (out_of_turn ++ (misset ++ astray)))))))))))))

unfoldable pub places : List Bool
places =
    -- [damage: unused flag]
    unused_wrong (turning seven (replicate 8 true) 0 5)
    ∷ unused_wrong (with_turns (true ∷ true ∷ true ∷ replicate 5 false) 0 5)
    -- [damage: unused partition] each of its numbers, above
    ∷ unused_wrong (with_part seven 7 (used 0))
    ∷ unused_wrong (with_part two 7 (used 14))
    ∷ unused_wrong (with_part seven 7 (used 15))
    ∷ unused_wrong (with_part two 2 (used 16))
    -- [damage: unused register]
    ∷ unused_wrong (with_registers seven (set (zeros 256) 224 1))
    ∷ unused_wrong (with_register 255 1)
    -- [damage: unused frame place] behind a frame list, or of a partition that is not there
    ∷ damaged (with_frame two 257 1)
    ∷ unused_wrong (with_frame seven 255 1)
    ∷ unused_wrong (with_frame seven 1792 1)
    ∷ unused_wrong (with_frame two 2047 1)
    -- [damage: unused shadow place]
    ∷ damaged (with_entry 3071 (entry_of 1 0))
    ∷ unused_wrong (with_shadows seven (set fresh_shadows 7168 1))
    -- [damage: queue count], beside all that is right
    ∷ damaged (with_queues two (queues (zeros 256) (set (zeros 8) 7 1)))
    -- [damage: shadow entry's frame] an own frame, protected or not, is right
    ∷ not (damaged (with_entry 1031 (entry_of 2 1)))
    ∷ []

-- ---- tickets

-- h, a house of two, where partition 0 has made n plain steps of its turn, has these in registers 1, 2 and 3, and the queues are t
abbrev at_desk : House → ℕ → ℕ → ℕ → ℕ → Queues → House
at_desk h n r1 r2 r3 t =
    with_queues
    (house_at h 0 (5 - n) (set h.parts 0 (part 1 (at (4 * n) (4 * n + 4) 0 0 1) 0 0 n)) (0 ∷ r1 ∷ r2 ∷ r3 ∷ zeros 252) h.shadows) t

-- n steps of these words by it, with 7, `to` and 55 in the registers, leave just such a house, the turn going on, and the memory
unfoldable pub leaves : House → List ℕ → ℕ → Queues → ℕ → ℕ → Queues → Bool
leaves h ws to t r1 r3 t' =
    let n = length ws in
    let m = zeros 1024 ++ ws in
    let w = host_steps n (world (at_desk h 0 7 to 55 t) m) in
    same_house w.house (at_desk h n r1 to r3 t') && same w.memory m

-- partition 0's places, then partition 1's, and how many wait for them
abbrev lines : List ℕ → ℕ → List ℕ → ℕ → Queues
lines a n b m = queues (take 32 (a ++ zeros 32) ++ (take 32 (b ++ zeros 32) ++ zeros 192)) (n ∷ m ∷ zeros 6)

abbrev none : Queues
none = lines [] 0 [] 0

abbrev send : ℕ
send = 0xF8000100

abbrev receive : ℕ
receive = 0xF8000101

-- turns of 1 step: partition 0 sends 7 to partition 1, which takes
unfoldable pub across : ℕ → House
across n =
    (host_steps n
    (world (with_registers (booted_house (1 ∷ 1 ∷ []) 1 (1 ∷ 2 ∷ []) 3072) (0 ∷ 7 ∷ 1 ∷ zeros 253)) (zeros 1024 ++ (send ∷ zeros 1023 ++ (receive ∷ []))))).house

unfoldable pub exchanges : List Bool
exchanges =
    -- [ticket: sent] it stands behind the others; to oneself too; a stopped partition still receives
    leaves two (send ∷ []) 1 none 7 0 (lines [] 0 (7 ∷ []) 1)
    ∷ leaves two (send ∷ []) 1 (lines (4 ∷ []) 1 (9 ∷ 8 ∷ []) 2) 7 0 (lines (4 ∷ []) 1 (9 ∷ 8 ∷ 7 ∷ []) 3)
    ∷ leaves two (send ∷ []) 0 (lines (4 ∷ []) 1 [] 0) 7 0 (lines (4 ∷ 7 ∷ []) 2 [] 0)
    ∷ leaves (stopped two 1) (send ∷ []) 1 none 7 0 (lines [] 0 (7 ∷ []) 1)
    -- [ticket: full queue] the 32nd fits, the 33rd doesn't
    ∷ leaves two (send ∷ []) 1 (lines [] 0 (up_to 31) 31) 7 0 (lines [] 0 (up_to 31 ++ (7 ∷ [])) 32)
    ∷ leaves two (send ∷ send ∷ []) 1 (lines [] 0 (up_to 31) 31) 7 1 (lines [] 0 (up_to 31 ++ (7 ∷ [])) 32)
    ∷ leaves two (send ∷ []) 1 (lines [] 0 (up_to 32) 32) 7 1 (lines [] 0 (up_to 32) 32)
    -- [ticket: no such partition] the count, 8, and the largest number
    ∷ leaves two (send ∷ []) 2 none 7 2 none
    ∷ leaves two (send ∷ []) 8 none 7 2 none
    ∷ leaves two (send ∷ []) 0xFFFFFFFF none 7 2 none
    -- [ticket: taken] the oldest of one's own, and the others move on
    ∷ leaves two (receive ∷ []) 1 (lines (9 ∷ 8 ∷ []) 2 (5 ∷ []) 1) 9 0 (lines (8 ∷ []) 1 (5 ∷ []) 1)
    ∷ leaves two (receive ∷ []) 1 (lines (up_to 32) 32 [] 0) 0 0 (lines (list_from (λ i. i) 1 31) 31 [] 0)
    -- [ticket: none waiting] leaves register 1
    ∷ leaves two (receive ∷ []) 1 (lines [] 0 (5 ∷ []) 1) 7 3 (lines [] 0 (5 ∷ []) 1)
    -- [ticket: freed place] is used again: the oldest of a full queue goes to its end; one's own ticket comes back
    ∷ leaves two (receive ∷ send ∷ []) 0 (lines (list_from (λ i. i) 40 32) 32 [] 0) 40 0 (lines (list_from (λ i. i) 41 31 ++ (40 ∷ [])) 32 [] 0)
    ∷ leaves two (send ∷ receive ∷ receive ∷ []) 0 none 7 3 none
    -- [ticket: user mode] both are ordinary traps; [ticket: another trap] 258 is one in system mode too, and passes the turn
    ∷ interrupt (user (0 ∷ 7 ∷ 1 ∷ []) send) 32 12 16 256
    ∷ interrupt (user (0 ∷ 7 ∷ 1 ∷ []) receive) 32 12 16 257
    ∷ same (user (0 ∷ 7 ∷ 1 ∷ []) send).house.waiting (zeros 8)
    ∷ current (user (0 ∷ 7 ∷ 1 ∷ []) send).house 0 4
    ∷ interrupt (system (0 ∷ 7 ∷ 1 ∷ []) 0xF8000102) 32 12 16 258
    ∷ current (system (0 ∷ 7 ∷ 1 ∷ []) 0xF8000102).house 1 5
    -- [ticket: last step] the turn passes at 0 left, from sender to receiver
    ∷ same ((across 1).tickets ++ (across 1).waiting) ((lines [] 0 (7 ∷ []) 1).tickets ++ (lines [] 0 (7 ∷ []) 1).waiting)
    ∷ current (across 1) 1 1
    ∷ same (take 4 (registers_of (across 2) 1)) (0 ∷ 7 ∷ 0 ∷ 0 ∷ [])
    ∷ same ((across 2).tickets ++ (across 2).waiting) (zeros 264)
    -- [damage: queue count] above 32, or of a partition that is not there
    ∷ queues_wrong (with_queues two (lines (up_to 32) 33 [] 0))
    ∷ queues_wrong (with_queues two (lines [] 0 (up_to 32) 33))
    ∷ queues_wrong (with_queues two (queues (zeros 256) (set (zeros 8) 2 1)))
    ∷ queues_wrong (with_queues two (queues (zeros 256) (set (zeros 8) 7 1)))
    -- [damage: queue place] used, where none waits
    ∷ queues_wrong (with_queues two (lines (4 ∷ 7 ∷ []) 1 [] 0))
    ∷ queues_wrong (with_queues two (queues (set (zeros 256) 255 1) (zeros 8)))
    ∷ queues_wrong (with_queues two (lines (ones 32) 31 [] 0))
    ∷ not (queues_wrong (with_queues two (lines (ones 32) 32 (0 ∷ []) 1)))
    ∷ []

-- a booted house is not damaged, nor one with nothing running; the house of no partitions is
unfoldable pub whole : List Bool
whole = not (damaged two) ∷ not (damaged idle) ∷ damaged no_house ∷ []
