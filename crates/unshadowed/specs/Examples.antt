-- Worked examples, as one list that proofs/Checked.antt checks by a single claim. Each row of the rules stands in square brackets, as docs/EXAMPLES.md
-- lists them. What is compared is the answer with the whole table and memory.
use Rattle.std.specs.Prelude.{ℕ, ◌+◌, Bool, true, false, ◌&&◌, List, [], ◌∷◌, ◌++◌, replicate, ◌==◌, slice_set}
use mir.Val.{bool_byte}
use Rattle.dlx.specs.Processor.{no_timer, fresh_of, with_processor, with_table}
use Rattle.dlx.specs.Machine.{core, Outcome, reply, step, steps}
use Rattle.dlx.specs.Examples.{same}
use Rattle.dlx.specs.declared.partition.Partition.{Partition}
use Rattle.dlx.specs.declared.partition.Processor.{Processor}
use Rattle.dlx.specs.declared.partition.Table.{Table}
use Rattle.addresses.specs.Memory.{Host, host, host_memory, fresh_shadow}
use Rattle.addresses.specs.Examples.{words_from, answer, numbers, told}
use Rattle.house.specs.House.{no_house, layout, guests, turn, with_layout, with_turn, with_guests, partition, registers_of}
use Rattle.house.specs.Turns.{World, world, host_step}
use Rattle.unshadowed.specs.Memory.{Unshadowed, unshadowed, unshadowed_memory}
use Rattle.unshadowed.specs.Turns.{unshadowed_step, unshadowed_steps}

-- ---- a guest of three pages, in frames 3, 1 and 2 of a memory of four; its table is its page 2, so host words 2,048 and on, and has seven entries

abbrev frames : List ℕ
frames = 3 ∷ 1 ∷ 2 ∷ replicate 253 0

-- a word that tells its place
abbrev word : ℕ → ℕ
word i = 0x50000000 + i

-- entries: 0 page 0, 1 page 1, 2 the table's own page 2, 3 page 1 protected, 4 a page that is not there, 5 not valid though all below bit 11 is 1, 6 page 0
-- with bits 9..0 all 1; behind them, 1,023 page 1
abbrev memory : List ℕ
memory =
    words_from 0 2048
    ++ (0x00000800 ∷ 0x00001800 ∷ 0x00002800 ∷ 0x00001C00 ∷ 0x00003BFF ∷ 0x000017FF ∷ 0x00000BFF
    ∷ slice_set (words_from 2055 2041) 1016 0x00001800)

abbrev table : ℕ → ℕ → Table
table pto ptl = record { pto = pto; ptl = ptl }

abbrev guest : ℕ → ℕ → Unshadowed
guest pto ptl = unshadowed (table pto ptl) memory

-- ---- what is looked at: the answer, and the whole of what is left

unfoldable pub same_memory : Unshadowed → Unshadowed → Bool
same_memory s t = s.table.pto == t.table.pto && s.table.ptl == t.table.ptl && same s.words t.words

-- a load answers this word, and leaves all as it was
unfoldable pub gives : Unshadowed → Bool → ℕ → ℕ → Bool
gives s user a w =
    let g = (unshadowed_memory frames 3).read s user a in
    same (answer g.0) (w ∷ []) && same_memory g.1 s

-- a store fails by this fault, and leaves all as it was; and so does a load
unfoldable pub refuses : Unshadowed → Bool → ℕ → ℕ → Bool
refuses s user a n =
    let g = (unshadowed_memory frames 3).write s user a (λ w. w + 7) in
    (told g.0 == n) && same_memory g.1 s

unfoldable pub faults : Unshadowed → Bool → ℕ → ℕ → Bool
faults s user a n =
    let g = (unshadowed_memory frames 3).read s user a in
    same (answer g.0) (0 ∷ n ∷ []) && same_memory g.1 s && refuses s user a n

-- a store of v becomes host word i, and leaves all else as it was
unfoldable pub writes : Unshadowed → Bool → ℕ → ℕ → ℕ → Bool
writes s user a v i =
    let g = (unshadowed_memory frames 3).write s user a (λ _. v) in
    (told g.0 == 0) && same_memory g.1 (unshadowed s.table (slice_set s.words i v))

-- ---- single accesses

unfoldable pub walks : List Bool
walks =
    -- [unshadowed: the walk] each test at its two sides, for a load and a store: px below PTL; px below 1,024; the entry inside guest memory; valid; the page number
    gives (guest 2 7) true 0x6ABC (word 3759)
    ∷ faults (guest 2 6) true 0x6ABC 1
    ∷ gives (guest 2 1024) true 0x3FFABC (word 1711)
    ∷ faults (guest 2 1025) true 0x400ABC 2
    ∷ gives (guest 2 7) true 0x0ABC (word 3759)
    ∷ faults (guest 3 7) true 0x0ABC 3
    ∷ faults (guest 2 7) true 0x5ABC 4
    ∷ faults (guest 2 7) true 0x4ABC 5
    ∷ writes (guest 2 7) true 0x1ABC 77 1711
    ∷ writes (guest 2 7) true 0x6ABC 78 3759
    -- [unshadowed: the first that applies] px past PTL and above 1,023, with PTO outside; then above 1,023
    ∷ faults (guest 3 7) true 0x400ABC 1
    ∷ faults (guest 3 1025) true 0x400ABC 2
    -- [unshadowed: protected store] bit 10 alone forbids a store; a load goes through
    ∷ gives (guest 2 7) true 0x3ABC (word 1711)
    ∷ refuses (guest 2 7) true 0x3ABC 6
    -- [unshadowed: system mode] below 4,096 times the page count, whatever the table
    ∷ gives (guest 9 0) false 0x2FFC 0x00001800
    ∷ faults (guest 2 7) false 0x3000 7
    ∷ writes (guest 9 0) false 0x0ABC 79 3759
    ∷ []

-- ---- one access after the other: nothing is kept between them

-- what is left by a load, a store, a new table, and by a table word edited by hand
abbrev read : Unshadowed → ℕ → Unshadowed
read s a = ((unshadowed_memory frames 3).read s true a).1

abbrev stored : Unshadowed → Bool → ℕ → ℕ → Unshadowed
stored s user a v = ((unshadowed_memory frames 3).write s user a (λ _. v)).1

abbrev retabled : Unshadowed → ℕ → ℕ → Unshadowed
retabled s pto ptl = (unshadowed_memory frames 3).retable s (table pto ptl)

abbrev edited : Unshadowed → ℕ → ℕ → Unshadowed
edited s i v = unshadowed s.table (slice_set s.words i v)

-- the first engine's memory, from an empty shadow, with the same load and the same edit
abbrev shadowed : ℕ → ℕ → ℕ → Host
shadowed a i v =
    let h = ((host_memory frames 3).read (host (table 2 7) memory fresh_shadow) true a).1 in host h.table (slice_set h.words i v) h.shadow

unfoldable pub chains : List Bool
chains =
    -- [unshadowed: a walk at every access] an entry edited by hand behind a load: the next load goes by it, where a shadow leads to the old page
    gives (edited (read (guest 2 7) 0x6ABC) 2054 0x00001800) true 0x6ABC (word 1711)
    ∷ faults (edited (read (guest 2 7) 0x6ABC) 2054 0x00001000) true 0x6ABC 4
    ∷ same (answer ((host_memory frames 3).read (shadowed 0x6ABC 2054 0x00001800) true 0x6ABC).0) (word 3759 ∷ [])
    -- [unshadowed: nothing filled] the page protected behind a load, and let again
    ∷ refuses (edited (read (guest 2 7) 0x1ABC) 2049 0x00001C00) true 0x1ABC 6
    ∷ writes (edited (edited (read (guest 2 7) 0x1ABC) 2049 0x00001C00) 2049 0x00001800) true 0x1ABC 80 1711
    -- [unshadowed: a store to the table] is seen at the next access: in system mode, through the mapped page in user mode, and to no entry
    ∷ gives (stored (guest 2 7) false 0x2018 0x00001800) true 0x6ABC (word 1711)
    ∷ gives (stored (guest 2 7) true 0x2018 0x00002800) true 0x6ABC (word 2735)
    ∷ faults (stored (read (guest 2 7) 0x6ABC) true 0x2018 0x00001000) true 0x6ABC 4
    ∷ gives (stored (guest 2 7) true 0x201C 0x00001800) true 0x6ABC (word 3759)
    -- [unshadowed: a new table] PTO and PTL change alone; the next access goes by them, and back
    ∷ same_memory (retabled (guest 2 7) 8 9) (guest 8 9)
    ∷ faults (retabled (read (guest 2 7) 0x6ABC) 2 6) true 0x6ABC 1
    ∷ faults (retabled (read (guest 2 7) 0x6ABC) 0 7) true 0x6ABC 5
    ∷ gives (retabled (retabled (guest 2 7) 0 7) 2 7) true 0x6ABC (word 3759)
    ∷ []

-- ---- single steps, with register 1 = 9, whose latest fault was 3

abbrev at : ℕ → ℕ → ℕ → Processor
at dpc pc mode =
    record { dpc = dpc; pc = pc; sr = 3; esr = 91; eca = 92; epc = 93; edpc = 94; edata = 95; mode = mode; emode = 0 }

abbrev nine : List ℕ
nine = slice_set (replicate 32 0) 1 9

-- the word w at guest address 0, in a mode
unfoldable pub once : Processor → ℕ → Outcome × Unshadowed
once p w = step (unshadowed_memory frames 3) (reply 0 0) (core p nine 3 no_timer, unshadowed (table 2 7) (slice_set memory 3072 w))

-- the processor's numbers, the registers, the latest fault and the memory; the guest does not call
unfoldable pub leaves : Outcome × Unshadowed → List ℕ → List ℕ → ℕ → Unshadowed → Bool
leaves m p r fault s =
    same (numbers m.0.core.processor) p && same m.0.core.registers r && m.0.core.fault == fault && bool_byte m.0.calls == 0
    && same_memory m.1 s

-- it goes on in its mode with these registers; or fails with ECA, EPC, EDPC and EDATA
unfoldable pub goes_on : Outcome × Unshadowed → ℕ → List ℕ → Unshadowed → Bool
goes_on m mode r s = leaves m (4 ∷ 8 ∷ 3 ∷ 91 ∷ 92 ∷ 93 ∷ 94 ∷ 95 ∷ mode ∷ 0 ∷ []) r 3 s

unfoldable pub fails : Outcome × Unshadowed → ℕ → List ℕ → ℕ → ℕ → Bool
fails m mode saved fault w =
    leaves m (0 ∷ 4 ∷ 0 ∷ 3 ∷ saved ++ (0 ∷ mode ∷ [])) nine fault (unshadowed (table 2 7) (slice_set memory 3072 w))

unfoldable pub single : List Bool
single =
    -- [unshadowed: a step] a load through the protected entry 3, and a store through entry 1; in system mode a store to the table, and movi2s to PTO
    goes_on (once (at 0 4 1) 0x8C023ABC) 1 (slice_set nine 2 (word 1711)) (unshadowed (table 2 7) (slice_set memory 3072 0x8C023ABC))
    ∷ goes_on (once (at 0 4 1) 0xAC011ABC) 1 nine (unshadowed (table 2 7) (slice_set (slice_set memory 3072 0xAC011ABC) 1711 9))
    ∷ goes_on (once (at 0 4 0) 0xAC012018) 0 nine (unshadowed (table 2 7) (slice_set (slice_set memory 3072 0xAC012018) 2054 9))
    ∷ goes_on (once (at 0 4 0) 0x002001D1) 0 nine (unshadowed (table 9 7) (slice_set memory 3072 0x002001D1))
    -- [unshadowed: a step's fault] a protected store, a load of an entry that is not valid, and a fetch outside in either mode: the number is the latest fault then
    ∷ fails (once (at 0 4 1) 0xAC013ABC) 1 (16 ∷ 4 ∷ 0 ∷ 0x3ABC ∷ []) 6 0xAC013ABC
    ∷ fails (once (at 0 4 1) 0x8C015ABC) 1 (16 ∷ 4 ∷ 0 ∷ 0x5ABC ∷ []) 4 0x8C015ABC
    ∷ fails (once (at 0x4000 0x4004 1) 5) 1 (8 ∷ 0x4004 ∷ 0x4000 ∷ 0x4000 ∷ []) 5 5
    ∷ fails (once (at 0x3000 0x3004 0) 5) 0 (8 ∷ 0x3004 ∷ 0x3000 ∷ 0x3000 ∷ []) 7 5
    -- a store to the entry of the page it was fetched from: the next fetch goes by it. 0xAC012000 makes entry 0 the word 9, which is not valid
    ∷ (let m = steps (unshadowed_memory frames 3) (λ _. reply 0 0) 2 (core (at 0 4 1) nine 3 no_timer, unshadowed (table 2 7) (slice_set memory 3072 0xAC012000)) in
    (m.0.fault == 4) && m.0.processor.eca == 8 && m.0.processor.edpc == 4)
    ∷ []

-- ---- host steps of a house: the same guest in user mode, with an entry 0 of its shadow that leads to frame 2; behind it another, whose shadow has an entry too

abbrev here : Partition
here = with_table (with_processor (fresh_of 3) (at 0 4 1)) (table 2 7)

-- 0x8C021ABC loads the word at 0x1ABC into register 2; frame 2's first word, an entry of the table, is no instruction
abbrev astray : World
astray =
    world
    (with_guests
    (with_turn (with_layout no_house (layout 2 5 4096 frames)) (true ∷ true ∷ []) (turn 0 2))
    (guests (here ∷ fresh_of 1 ∷ []) nine (0x00002800 ∷ replicate 1023 0 ++ (0x00000800 ∷ []))))
    (slice_set memory 3072 0x8C021ABC)

unfoldable pub hosts : List Bool
hosts =
    -- [unshadowed: no shadow looked at] the word that the table leads to is executed; the first engine goes by the shadow, and its step is ill
    same (registers_of (unshadowed_step astray).house 0) (slice_set nine 2 (word 1711))
    ∷ ((partition (unshadowed_step astray).house 0).processor.dpc == 4)
    ∷ ((partition (host_step astray).house 0).processor.eca == 2)
    -- [unshadowed: a host step] counts and passes the turn on; the shadow of the one whose step it was is empty then, and no other
    ∷ ((partition (unshadowed_step astray).house 0).counter == 1)
    ∷ ((unshadowed_step astray).house.left == 1)
    ∷ same (unshadowed_step astray).house.shadows (replicate 1024 0 ++ (0x00000800 ∷ []))
    ∷ same (unshadowed_step astray).memory (slice_set memory 3072 0x8C021ABC)
    ∷ ((unshadowed_steps 2 astray).house.current == 1)
    ∷ ((unshadowed_steps 2 astray).house.left == 5)
    ∷ []
