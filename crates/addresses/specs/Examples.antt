-- Worked examples, as one list that proofs/Checked.antt checks by a single claim. Each row of the rules stands in square brackets, as docs/EXAMPLES.md
-- lists them. What is compared is the answer with the whole table, memory and shadow.
use Prim.{Unit}
use Rattle.std.specs.Prelude.{Bool, true, false, not, ◌&&◌, List, [], ◌∷◌, ◌++◌, ℕ, zero, suc, ◌+◌, ◌^◌, eqb, set, take, drop, replicate, Result, Ok, Err}
use mir.Val.{bool_byte}
use Rattle.dlx.specs.Processor.{fresh_processor, no_timer}
use Rattle.dlx.specs.Machine.{Core, core, Outcome, reply, step, steps}
use Rattle.dlx.specs.Examples.{same}
use Rattle.dlx.specs.declared.partition.Table.{Table}
use Rattle.dlx.specs.declared.partition.Processor.{Processor}
use Rattle.addresses.specs.Entries.{composition_of}
use Rattle.addresses.specs.Walk.{entries}
use Rattle.addresses.specs.Memory.{Lone, lone, lone_memory, Host, host, host_word, stale, host_memory, emptied, fresh_shadow}

-- ---- entry composition: 0 is load, 1 store; 4,294,967,295 is a fault

unfoldable pub compositions : List Bool
compositions =
    -- [composition: page number] entry 0x00003800, 4 pages: page 3; 3 pages: both fault
    eqb (composition_of 0x00003800 4 0) 3
    ∷ eqb (composition_of 0x00003800 4 1) 3
    ∷ eqb (composition_of 0x00003800 3 0) 4294967295
    ∷ eqb (composition_of 0x00003800 3 1) 4294967295
    ∷ eqb (composition_of 0xFFFFF800 4294967295 0) 1048575
    ∷ eqb (composition_of 0xFFFFF800 4294967295 1) 1048575
    -- [composition: protected] 0x00003C00: load works, store faults; 3 pages: both fault
    ∷ eqb (composition_of 0x00003C00 4 0) 3
    ∷ eqb (composition_of 0x00003C00 4 1) 4294967295
    ∷ eqb (composition_of 0x00003C00 3 0) 4294967295
    ∷ eqb (composition_of 0x00003C00 3 1) 4294967295
    ∷ eqb (composition_of 0x00003BFF 4 1) 3
    -- [composition: all else is store]
    ∷ eqb (composition_of 0x00003C00 4 2) 4294967295
    ∷ eqb (composition_of 0x00003C00 4 4294967295) 4294967295
    -- [composition: valid] bit 11 is 0, and all below it 1
    ∷ eqb (composition_of 0x000037FF 4 0) 4294967295
    ∷ eqb (composition_of 0x00003000 4 1) 4294967295
    ∷ []

-- ---- a guest of three pages, in frames 2, 3 and 1 of a memory of four frames; its table is its page 1, so host words 3,072 and on

abbrev frames : List ℕ
frames = 2 ∷ 3 ∷ 1 ∷ replicate 253 0

-- a word that tells its place, and n of them from place i on
abbrev word : ℕ → ℕ
word i = 0x50000000 + i

unfoldable pub words_from : ℕ → ℕ → List ℕ
words_from i zero = []
words_from i (suc n) = word i ∷ words_from (suc i) n

-- entries: 0 page 0, 1 the table's own page 1, 2 page 2 protected, 3 a page that is not there, 4 not valid though all below bit 11 is 1, 5 page 2 with
-- bits 9..0 all 1, and 6 and 1,023 page 2. The word behind the table, the first of page 2, is an entry of page 0, and so is word 6 of page 2; the first of
-- page 0 is one of page 2.
abbrev memory : List ℕ
memory =
    set (set (set (words_from 0 3072) 1024 0x00000800) 1030 0x00000800) 2048 0x00002814
    ++ (0x00000800 ∷ 0x00001800 ∷ 0x00002C00 ∷ 0x00003BFF ∷ 0x000027FF ∷ 0x00002BFF ∷ 0x00002800
    ∷ set (words_from 3079 1017) 1016 0x00002800)

abbrev table : ℕ → ℕ → Table
table pto ptl = record { pto = pto; ptl = ptl }

abbrev guest : ℕ → ℕ → Host
guest pto ptl = host (table pto ptl) memory fresh_shadow

-- with a shadow made by hand; every entry leads to frame 1
abbrev shadowed : List ℕ → Host
shadowed sh = host (table 1 6) memory sh

abbrev full : List ℕ
full = replicate entries 0x00001800

-- the empty shadow but for entry px
abbrev only : ℕ → ℕ → List ℕ
only px e = set fresh_shadow px e

-- ---- what is looked at: the answer, and the whole of what is left

unfoldable pub same_host : Host → Host → Bool
same_host h k =
    eqb h.table.pto k.table.pto && eqb h.table.ptl k.table.ptl && same h.words k.words && same h.shadow k.shadow

-- a word, or 0 and the fault's number
unfoldable pub answer : Result ℕ ℕ → List ℕ
answer (Err n) = 0 ∷ n ∷ []
answer (Ok v) = v ∷ []

-- 0 where a store is made, or the fault's number
unfoldable pub told : Result (Unit {0}) ℕ → ℕ
told (Err n) = n
told (Ok u) = 0

-- a load answers this word, and leaves the shadow sh and all else as it was
unfoldable pub gives : Host → Bool → ℕ → ℕ → List ℕ → Bool
gives h user a w sh =
    let g = (host_memory frames 3).read h user a in
    same (answer g.0) (w ∷ []) && same_host g.1 (host h.table h.words sh)

-- a load and a store fail by this fault, and leave so
unfoldable pub faults : Host → Bool → ℕ → ℕ → List ℕ → Bool
faults h user a n sh =
    let g = (host_memory frames 3).read h user a in
    same (answer g.0) (0 ∷ n ∷ []) && same_host g.1 (host h.table h.words sh)

unfoldable pub refuses : Host → Bool → ℕ → ℕ → List ℕ → Bool
refuses h user a n sh =
    let g = (host_memory frames 3).write h user a (λ w. w + 7) in
    eqb (told g.0) n && same_host g.1 (host h.table h.words sh)

-- a store of v becomes host word i, and leaves the shadow sh and all else as it was
unfoldable pub writes : Host → Bool → ℕ → ℕ → ℕ → List ℕ → Bool
writes h user a v i sh =
    let g = (host_memory frames 3).write h user a (λ _. v) in
    eqb (told g.0) 0 && same_host g.1 (host h.table (set h.words i v) sh)

-- ---- the walk, system mode and fills

unfoldable pub walks : List Bool
walks =
    -- [walk: px not below PTL] PTL is a count: px 5 passes with PTL 6, and faults with PTL 5; px 0 with 1 and with 0
    gives (guest 1 6) true 0x5ABC (word 1711) (only 5 0x00001800)
    ∷ faults (guest 1 5) true 0x5ABC 1 fresh_shadow
    ∷ refuses (guest 1 5) true 0x5ABC 1 fresh_shadow
    ∷ gives (guest 1 1) true 0x0ABC (word 2735) (only 0 0x00002800)
    ∷ faults (guest 1 0) true 0x0ABC 1 fresh_shadow
    -- [walk: px above 1,023] 1,023 may pass, 1,024 never
    ∷ gives (guest 1 1024) true 0x3FFABC (word 1711) (only 1023 0x00001800)
    ∷ faults (guest 1 1025) true 0x400ABC 2 fresh_shadow
    ∷ refuses (guest 1 1025) true 0x400ABC 2 fresh_shadow
    ∷ faults (guest 1 4294967295) true 0xFFFFFFFC 2 fresh_shadow
    ∷ faults (guest 1 6) true 0x400ABC 1 fresh_shadow
    -- [walk: entry outside guest memory] PTO 2 is the last page, 3 is outside; never wrapped, though 4,096·PTO modulo 2^32 is page 0 or the table's
    ∷ gives (guest 2 7) true 0x6ABC (word 2735) (only 6 0x00002800)
    ∷ faults (guest 3 7) true 0x0ABC 3 fresh_shadow
    ∷ faults (guest 3 7) true 0x6ABC 3 fresh_shadow
    ∷ refuses (guest 3 7) true 0x6ABC 3 fresh_shadow
    ∷ faults (guest (2 ^ 20) 7) true 0x0ABC 3 fresh_shadow
    ∷ faults (guest (2 ^ 20 + 1) 7) true 0x0ABC 3 fresh_shadow
    ∷ faults (guest 4294967295 7) true 0x0ABC 3 fresh_shadow
    -- [walk: valid] entry 4 has bit 11 alone 0
    ∷ faults (guest 1 6) true 0x4ABC 4 fresh_shadow
    ∷ refuses (guest 1 6) true 0x4ABC 4 fresh_shadow
    -- [walk: page number] page 2 passes, 3 does not; it is bits 31..12
    ∷ gives (guest 0 1) true 0x0ABC (word 1711) (only 0 0x00001800)
    ∷ faults (guest 1 6) true 0x3ABC 5 fresh_shadow
    ∷ refuses (guest 1 6) true 0x3ABC 5 fresh_shadow
    ∷ faults (host (table 1 6) (set memory 3072 0x80000800) fresh_shadow) true 0x0ABC 5 fresh_shadow
    -- [walk: protected store] bit 10 alone forbids a store; a load goes through
    ∷ gives (guest 1 6) true 0x2ABC (word 1711) (only 2 0x00001C00)
    ∷ refuses (guest 1 6) true 0x2ABC 6 (only 2 0x00001C00)
    ∷ writes (guest 1 6) true 0x5ABC 77 1711 (only 5 0x00001800)
    -- [fault: the first that applies] px past PTL and above 1,023, with PTO outside; then above 1,023; an entry that is not valid, names no page and is protected; then
    -- one that names no page and is protected
    ∷ refuses (guest 3 6) true 0x400ABC 1 fresh_shadow
    ∷ refuses (guest 3 1025) true 0x400ABC 2 fresh_shadow
    ∷ refuses (host (table 1 6) (set memory 3072 0x00003400) fresh_shadow) true 0x0ABC 4 fresh_shadow
    ∷ refuses (host (table 1 6) (set memory 3072 0x00003C00) fresh_shadow) true 0x0ABC 5 fresh_shadow
    -- [walk: guest page k is the k-th frame of its list]
    ∷ gives (guest 1 6) true 0x0FFC (word 3071) (only 0 0x00002800)
    ∷ gives (guest 1 6) true 0x1ABC (word 3759) (only 1 0x00003800)
    ∷ writes (guest 1 6) true 0x0FFC 77 3071 (only 0 0x00002800)
    ∷ eqb (host_word frames memory 1023) (word 3071)
    ∷ eqb (host_word frames memory 2047) 0x00002800
    ∷ eqb (host_word frames memory 2048) 0x00000800
    -- [system: below 4,096 times the page count] both sides of the limit; neither table nor shadow counts, and nothing is filled
    ∷ gives (guest 1 6) false 0x2FFC (word 2047) fresh_shadow
    ∷ faults (guest 1 6) false 0x3000 7 fresh_shadow
    ∷ faults (guest 1 6) false 0xFFFFFFFC 7 fresh_shadow
    ∷ writes (guest 1 6) false 0x2FFC 77 2047 fresh_shadow
    ∷ refuses (guest 1 6) false 0x3000 7 fresh_shadow
    ∷ refuses (shadowed full) false 0x3008 7 full
    ∷ gives (guest 9 0) false 0x0ABC (word 2735) fresh_shadow
    ∷ gives (shadowed (only 0 0x00001C00)) false 0x0ABC (word 2735) (only 0 0x00001C00)
    ∷ writes (shadowed (only 0 0x00001C00)) false 0x0ABC 77 2735 (only 0 0x00001C00)
    -- [fill: frame and protection] into entry px alone, by a load and by a store, over what is not valid too
    ∷ gives (shadowed (set full 0 0)) true 0x0ABC (word 2735) (set full 0 0x00002800)
    ∷ writes (shadowed (set full 5 0)) true 0x5ABC 77 1711 (set full 5 0x00001800)
    ∷ gives (shadowed (set full 2 0)) true 0x2ABC (word 1711) (set full 2 0x00001C00)
    ∷ gives (shadowed (only 0 0x000017FF)) true 0x0ABC (word 2735) (only 0 0x00002800)
    -- [fill: protected store] it faults and fills
    ∷ refuses (shadowed (set full 2 0)) true 0x2ABC 6 (set full 2 0x00001C00)
    -- [fill: none on a failed test]
    ∷ faults (shadowed (set full 3 0)) true 0x3ABC 5 (set full 3 0)
    ∷ faults (shadowed (set full 4 0)) true 0x4ABC 4 (set full 4 0)
    ∷ refuses (shadowed (set full 6 0)) true 0x6ABC 1 (set full 6 0)
    ∷ faults (shadowed (only 4 0x000017FF)) true 0x4ABC 4 (only 4 0x000017FF)
    ∷ faults (shadowed full) true 0x400ABC 1 full
    ∷ []

-- ---- hits

unfoldable pub hits : List Bool
hits =
    -- [hit: frame alone] though the table leads to another frame, to a page that is not there, to an entry that is not valid
    gives (shadowed (only 0 0x00001800)) true 0x0ABC (word 1711) (only 0 0x00001800)
    ∷ gives (shadowed full) true 0x3ABC (word 1711) full
    ∷ gives (shadowed full) true 0x4ABC (word 1711) full
    ∷ writes (shadowed full) true 0x4ABC 77 1711 full
    ∷ gives (host (table 3 7) memory full) true 0x0ABC (word 1711) full
    -- [hit: protection alone] the shadow's, whatever the table's
    ∷ gives (shadowed (only 0 0x00002C00)) true 0x0ABC (word 2735) (only 0 0x00002C00)
    ∷ refuses (shadowed (only 0 0x00002C00)) true 0x0ABC 6 (only 0 0x00002C00)
    ∷ writes (shadowed full) true 0x2ABC 77 1711 full
    -- [hit: px at or above PTL]
    ∷ gives (shadowed full) true 0x6ABC (word 1711) full
    ∷ gives (shadowed full) true 0x3FFABC (word 1711) full
    ∷ writes (host (table 1 0) memory full) true 0x0ABC 77 1711 full
    -- [hit: entry px] and not the next one's
    ∷ gives (shadowed (only 1 0x00001800)) true 0x0ABC (word 2735) (set (only 1 0x00001800) 0 0x00002800)
    ∷ gives (shadowed (set full 1 0x00002800)) true 0x1ABC (word 2735) (set full 1 0x00002800)
    -- [hit: the page written is the frame's place in the list] px 0 leads to the table's frame
    ∷ writes (shadowed (set full 0 0x00003800)) true 0x000C 77 3075 (set (set full 0 0x00003800) 3 0)
    ∷ writes (shadowed (set full 1 0x00002800)) true 0x100C 77 2051 (set full 1 0x00002800)
    ∷ []

-- ---- emptying

-- the table's page mapped
abbrev mapped : List ℕ
mapped = set full 1 0x00003800

unfoldable pub emptyings : List Bool
emptyings =
    -- [emptying: store in system mode] into entry 2 of the table: shadow 2 and no other
    writes (shadowed full) false 0x1008 77 3074 (set full 2 0)
    -- [emptying: store in user mode] through the mapped page 1, by a hit and by a fill
    ∷ writes (shadowed mapped) true 0x1008 77 3074 (set mapped 2 0)
    ∷ writes (shadowed (set full 1 0)) true 0x1008 77 3074 (set mapped 2 0)
    -- [emptying: equal value]
    ∷ writes (shadowed full) false 0x1008 0x00002C00 3074 (set full 2 0)
    ∷ writes (shadowed mapped) true 0x1008 0x00002C00 3074 (set mapped 2 0)
    -- [emptying: px below PTL] 5 is, 6 isn't
    ∷ writes (shadowed full) false 0x1014 77 3077 (set full 5 0)
    ∷ writes (shadowed full) false 0x1018 77 3078 full
    ∷ writes (shadowed mapped) true 0x1018 77 3078 mapped
    -- [emptying: px below 1,024] 1,023 is; the word behind lies in another page; 1,024 isn't, in a shadow made one too long
    ∷ writes (host (table 1 4294967295) memory full) false 0x1FFC 77 4095 (set full 1023 0)
    ∷ writes (host (table 1 4294967295) memory full) false 0x2000 77 1024 full
    ∷ same (emptied frames 3 (table 1 4294967295) 3 1024 (replicate 1025 0x00001800)) (replicate 1025 0x00001800)
    -- [emptying: the table's page] no other page, whatever PTO; none where PTO is outside
    ∷ writes (shadowed full) false 0x0008 77 2050 full
    ∷ writes (shadowed full) false 0x2008 77 1026 full
    ∷ writes (host (table 0 6) memory full) false 0x0008 77 2050 (set full 2 0)
    ∷ writes (host (table 2 6) memory full) true 0x0008 77 1026 (set full 2 0)
    ∷ writes (host (table 3 6) memory full) false 0x1008 77 3074 full
    -- [emptying: none by a faulted store]
    ∷ refuses (shadowed (set full 1 0x00003C00)) true 0x1008 6 (set full 1 0x00003C00)
    ∷ refuses (shadowed (set full 3 0)) true 0x3008 5 (set full 3 0)
    -- [emptying: after the access] a store fills the entry that it overwrites, and leaves it empty
    ∷ writes (guest 1 6) true 0x1004 77 3073 fresh_shadow
    ∷ writes (shadowed mapped) true 0x1004 77 3073 (set full 1 0)
    -- [emptying: none by a load]
    ∷ gives (shadowed full) false 0x1008 0x00002C00 full
    ∷ gives (shadowed mapped) true 0x1008 0x00002C00 mapped
    -- [emptying: a change of PTO or PTL] all, of the same values too
    ∷ same_host ((host_memory frames 3).retable (shadowed full) (table 8 9)) (guest 8 9)
    ∷ same_host ((host_memory frames 3).retable (shadowed full) (table 1 6)) (guest 1 6)
    -- [store: what is written] a store's update of the word that stands there
    ∷ (let g = (host_memory frames 3).write (guest 1 6) false 0x0ABC (λ w. w + 7) in
    eqb (told g.0) 0 && same_host g.1 (host (table 1 6) (set memory 2735 (word 2742)) fresh_shadow))
    ∷ []

-- ---- stale entries

unfoldable pub stales : List Bool
stales =
    -- [stale: not] what table and list give now: of pages 0, 1 and 2, protected and not, and of page 1,023
    not (stale frames 3 (table 1 6) memory 0 0x00002800)
    ∷ not (stale frames 3 (table 1 6) memory 1 0x00003800)
    ∷ not (stale frames 3 (table 1 6) memory 2 0x00001C00)
    ∷ not (stale frames 3 (table 1 6) memory 5 0x00001800)
    ∷ not (stale frames 3 (table 1 1024) memory 1023 0x00001800)
    -- [stale: frame] another own frame
    ∷ stale frames 3 (table 1 6) memory 0 0x00003800
    ∷ stale frames 3 (table 1 6) memory 2 0x00002C00
    -- [stale: protection] one that the table has not, and one that it has
    ∷ stale frames 3 (table 1 6) memory 0 0x00002C00
    ∷ stale frames 3 (table 1 6) memory 2 0x00001800
    -- [stale: a fault] from PTL on, from 1,024 on, outside guest memory, not valid, a page that is not there
    ∷ stale frames 3 (table 1 6) memory 6 0x00001800
    ∷ not (stale frames 3 (table 1 7) memory 6 0x00001800)
    ∷ stale frames 3 (table 1 1025) memory 1024 0x00002800
    ∷ stale frames 3 (table 3 6) memory 0 0x00002800
    ∷ stale frames 3 (table 1 6) memory 4 0x00001800
    ∷ stale frames 3 (table 1 6) memory 3 0x00001800
    -- [stale: a word edited] of the table, behind the shadow's back
    ∷ stale frames 3 (table 1 6) (set memory 3072 0x00001800) 0 0x00002800
    ∷ not (stale frames 3 (table 1 6) (set memory 3073 0) 0 0x00002800)
    -- [stale: empty] an entry that is not valid is never stale
    ∷ not (stale frames 3 (table 1 6) memory 0 0)
    ∷ not (stale frames 3 (table 1 6) memory 0 0x000027FF)
    ∷ not (stale frames 3 (table 1 6) memory 3 0)
    ∷ []

-- ---- the same guest as a lone machine: its pages in order, and no shadow

abbrev own : List ℕ
own = drop 2048 memory ++ take 1024 (drop 1024 memory)

abbrev lonely : ℕ → ℕ → Lone
lonely pto ptl = lone (table pto ptl) own

unfoldable pub same_lone : Lone → ℕ → ℕ → List ℕ → Bool
same_lone s pto ptl ws = eqb s.table.pto pto && eqb s.table.ptl ptl && same s.words ws

-- a load answers this, a word or a fault, and changes nothing; a store of 77 becomes word i, or changes nothing
unfoldable pub lone_loads : ℕ → ℕ → Bool → ℕ → List ℕ → Bool
lone_loads pto ptl user a l =
    let g = (lone_memory 3).read (lonely pto ptl) user a in same (answer g.0) l && same_lone g.1 pto ptl own

unfoldable pub lone_stores : ℕ → ℕ → Bool → ℕ → ℕ → List ℕ → Bool
lone_stores pto ptl user a n ws =
    let g = (lone_memory 3).write (lonely pto ptl) user a (λ w. w + 7) in
    eqb (told g.0) n && same_lone g.1 pto ptl ws

unfoldable pub alone : List Bool
alone =
    -- [walk: a lone machine] its table alone decides: each test at its two sides
    lone_loads 1 6 true 0x5ABC (word 1711 ∷ [])
    ∷ lone_loads 1 5 true 0x5ABC (0 ∷ 1 ∷ [])
    ∷ lone_loads 1 1024 true 0x3FFABC (word 1711 ∷ [])
    ∷ lone_loads 1 1025 true 0x400ABC (0 ∷ 2 ∷ [])
    ∷ lone_loads 2 7 true 0x6ABC (word 2735 ∷ [])
    ∷ lone_loads (2 ^ 20 + 1) 7 true 0x0ABC (0 ∷ 3 ∷ [])
    ∷ lone_loads 1 6 true 0x4ABC (0 ∷ 4 ∷ [])
    ∷ lone_loads 1 6 true 0x3ABC (0 ∷ 5 ∷ [])
    ∷ lone_loads 1 6 true 0x2ABC (word 1711 ∷ [])
    ∷ lone_stores 1 6 true 0x2ABC 6 own
    ∷ lone_stores 1 6 true 0x4ABC 4 own
    ∷ lone_stores 1 6 true 0x5ABC 0 (set own 2735 (word 1718))
    ∷ lone_stores 1 6 true 0x1ABC 0 (set own 1711 (word 3766))
    -- [system: a lone machine]
    ∷ lone_loads 9 0 false 0x2FFC (word 2047 ∷ [])
    ∷ lone_loads 1 6 false 0x3000 (0 ∷ 7 ∷ [])
    ∷ lone_stores 1 6 false 0x2FFC 0 (set own 3071 (word 2054))
    ∷ lone_stores 1 6 false 0x3000 7 own
    -- [emptying: a lone machine] has nothing to empty: PTO and PTL change alone
    ∷ same_lone ((lone_memory 3).retable (lonely 1 6) (table 8 9)) 8 9 own
    ∷ []

-- ---- steps of one partition: frame 1 of a memory of two frames

abbrev zeros : List ℕ
zeros = replicate 32 0

unfoldable pub booted : ℕ → List ℕ → Core × Host
booted n ws =
    steps (host_memory (1 ∷ replicate 255 0) 1) (λ _. reply 0 0) n (core fresh_processor zeros 0 no_timer, host (table 0 0) (replicate 1024 0 ++ (ws ++ replicate 1020 0)) fresh_shadow)

abbrev program : List ℕ
program = 0x20010005 ∷ 0xAC010008 ∷ 0 ∷ 0 ∷ []

unfoldable pub stepped : List Bool
stepped =
    -- 0x20010005: register 1 = 5; 0xAC010008 after it: byte address 8 holds 5
    same (booted 1 program).0.registers (set zeros 1 5)
    ∷ same_host (booted 2 program).1 (host (table 0 0) (replicate 1024 0 ++ (0x20010005 ∷ 0xAC010008 ∷ 5 ∷ replicate 1021 0)) fresh_shadow)
    -- the third step: ill, ECA 2, EDPC 8, EPC 12
    ∷ (let p = (booted 3 program).0.processor in eqb p.eca 2 && eqb p.edpc 8 && eqb p.epc 12)
    ∷ []

-- ---- single steps of the guest of three pages, with register 1 = 9, whose latest fault was 3

abbrev at : ℕ → ℕ → ℕ → Processor
at dpc pc mode =
    record { dpc = dpc; pc = pc; sr = 3; esr = 91; eca = 92; epc = 93; edpc = 94; edata = 95; mode = mode; emode = 0 }

abbrev nine : List ℕ
nine = set zeros 1 9

-- the word w at the host's word i, and a shadow
unfoldable pub once : Processor → ℕ → ℕ → List ℕ → Outcome × Host
once p i w sh = step (host_memory frames 3) (reply 0 0) (core p nine 3 no_timer, host (table 1 6) (set memory i w) sh)

-- at guest address 0, in system or user mode
unfoldable pub system : ℕ → List ℕ → Outcome × Host
system w sh = once (at 0 4 0) 2048 w sh

unfoldable pub user : ℕ → List ℕ → Outcome × Host
user w sh = once (at 0 4 1) 2048 w sh

-- every number of a processor
unfoldable pub numbers : Processor → List ℕ
numbers p =
    p.dpc ∷ p.pc ∷ p.sr ∷ p.esr ∷ p.eca ∷ p.epc ∷ p.edpc ∷ p.edata ∷ p.mode ∷ p.emode ∷ []

-- the whole of what a step leaves: the processor's numbers, the registers, the latest fault, whether it calls, and the host
unfoldable pub leaves : Outcome × Host → List ℕ → List ℕ → ℕ → Bool → Host → Bool
leaves m p r fault calls h =
    same (numbers m.0.core.processor) p && same m.0.core.registers r && eqb m.0.core.fault fault && eqb (bool_byte m.0.calls) (bool_byte calls)
    && same_host m.1 h

-- it goes on in its mode with these registers, host word i becoming v; or is interrupted in that mode, with ECA, EDPC, EPC and EDATA
unfoldable pub goes_on : Outcome × Host → ℕ → List ℕ → ℕ → ℕ → ℕ → List ℕ → Bool
goes_on m mode r w i v sh =
    leaves m (4 ∷ 8 ∷ 3 ∷ 91 ∷ 92 ∷ 93 ∷ 94 ∷ 95 ∷ mode ∷ 0 ∷ []) r 3 false (host (table 1 6) (set (set memory 2048 w) i v) sh)

unfoldable pub interrupt : Outcome × Host → ℕ → List ℕ → Bool → ℕ → ℕ → List ℕ → Bool
interrupt m mode saved calls i w sh =
    leaves m (0 ∷ 4 ∷ 0 ∷ 3 ∷ saved ++ (0 ∷ mode ∷ [])) nine 3 calls (host (table 1 6) (set memory i w) sh)

-- by a page fault, which is the latest then
unfoldable pub fails : Outcome × Host → ℕ → List ℕ → ℕ → ℕ → ℕ → List ℕ → Bool
fails m mode saved fault i w sh =
    leaves m (0 ∷ 4 ∷ 0 ∷ 3 ∷ saved ++ (0 ∷ mode ∷ [])) nine fault false (host (table 1 6) (set memory i w) sh)

-- ECA, EPC, EDPC and EDATA, in a processor's order
abbrev saving : ℕ → ℕ → ℕ → ℕ → List ℕ
saving eca epc edpc edata = eca ∷ epc ∷ edpc ∷ edata ∷ []

unfoldable pub single : List Bool
single =
    -- 0xF8000007 in system mode: ECA 32, EDATA 7, the guest calls; in user mode it doesn't. [fill: the fetch's survives] every interrupt
    interrupt (system 0xF8000007 full) 0 (saving 32 8 4 7) true 2048 0xF8000007 full
    ∷ interrupt (user 0xF8000007 fresh_shadow) 1 (saving 32 8 4 7) false 2048 0xF8000007 (only 0 0x00002800)
    ∷ interrupt (user 0 fresh_shadow) 1 (saving 2 4 0 95) false 2048 0 (only 0 0x00002800)
    -- [fill: by a load] 0x8C022ABC into register 2, through the protected entry 2
    ∷ goes_on (user 0x8C022ABC fresh_shadow) 1 (set nine 2 (word 1711)) 0x8C022ABC 2048 0x8C022ABC (set (only 0 0x00002800) 2 0x00001C00)
    -- [emptying: store in user mode] 0xAC011008 through the mapped page 1 into entry 2 of the table
    ∷ goes_on (user 0xAC011008 (set fresh_shadow 2 0x00001C00)) 1 nine 0xAC011008 3074 9 (set (only 0 0x00002800) 1 0x00003800)
    -- [emptying: store in system mode]
    ∷ goes_on (system 0xAC011008 full) 0 nine 0xAC011008 3074 9 (set full 2 0)
    -- [emptying: the fetch's own page] a store into entry 0 empties the entry that its own fetch filled
    ∷ goes_on (user 0xAC011000 fresh_shadow) 1 nine 0xAC011000 3072 9 (only 1 0x00003800)
    -- [fill: protected store] pfls with the address and the old pair, the entry is filled, nothing is written
    ∷ fails (user 0xAC012ABC fresh_shadow) 1 (saving 16 4 0 0x2ABC) 6 2048 0xAC012ABC (set (only 0 0x00002800) 2 0x00001C00)
    -- [fill: none on a failed test] a load in a delay slot whose entry is not valid: the pair of the slot and the branch's target is saved
    ∷ fails (once (at 4 64 1) 2049 0x8C014ABC fresh_shadow) 1 (saving 16 64 4 0x4ABC) 4 2049 0x8C014ABC (only 0 0x00002800)
    -- [fault: kept] a fetch outside, in user and in system mode: pff with DPC; a load to register 0 fails, too
    ∷ fails (once (at 0x4000 0x4004 1) 2048 5 fresh_shadow) 1 (saving 8 0x4004 0x4000 0x4000) 4 2048 5 fresh_shadow
    ∷ fails (once (at 0x3000 0x3004 0) 2048 5 full) 0 (saving 8 0x3004 0x3000 0x3000) 7 2048 5 full
    ∷ fails (user 0x8C003ABC fresh_shadow) 1 (saving 16 4 0 0x3ABC) 5 2048 0x8C003ABC (only 0 0x00002800)
    -- [fill: none on a misaligned address] 0xAC011006 and 0x8C015002, and a fetch at 2
    ∷ interrupt (user 0xAC011006 fresh_shadow) 1 (saving 4 4 0 95) false 2048 0xAC011006 (only 0 0x00002800)
    ∷ interrupt (user 0x8C015002 fresh_shadow) 1 (saving 4 4 0 95) false 2048 0x8C015002 (only 0 0x00002800)
    ∷ interrupt (once (at 2 8 1) 2048 5 fresh_shadow) 1 (saving 4 8 2 95) false 2048 5 fresh_shadow
    -- [emptying: movi2s to PTO] 0x002001D1 empties all, and changes PTO; [emptying: movi2s to PTL] 0x00200211
    ∷ leaves (system 0x002001D1 full) (4 ∷ 8 ∷ 3 ∷ 91 ∷ 92 ∷ 93 ∷ 94 ∷ 95 ∷ 0 ∷ 0 ∷ []) nine 3 false (host (table 9 6) (set memory 2048 0x002001D1) fresh_shadow)
    ∷ leaves (system 0x00200211 full) (4 ∷ 8 ∷ 3 ∷ 91 ∷ 92 ∷ 93 ∷ 94 ∷ 95 ∷ 0 ∷ 0 ∷ []) nine 3 false (host (table 1 9) (set memory 2048 0x00200211) fresh_shadow)
    -- [emptying: nothing else] movi2s to ESR, rfe, and an interrupt in either mode
    ∷ leaves (system 0x00200051 full) (4 ∷ 8 ∷ 3 ∷ 9 ∷ 92 ∷ 93 ∷ 94 ∷ 95 ∷ 0 ∷ 0 ∷ []) nine 3 false (host (table 1 6) (set memory 2048 0x00200051) full)
    ∷ leaves (system 0xFC000000 full) (94 ∷ 93 ∷ 91 ∷ 91 ∷ 92 ∷ 93 ∷ 94 ∷ 95 ∷ 0 ∷ 0 ∷ []) nine 3 false (host (table 1 6) (set memory 2048 0xFC000000) full)
    ∷ interrupt (system 0 full) 0 (saving 2 4 0 95) false 2048 0 full
    ∷ []

-- bytes and half words; entry 2 is 0x00002C00, entry 3 0x00003BFF, and the word at 0x2ABC is 0x500006AF
unfoldable pub parts : List Bool
parts =
    -- [emptying: a byte of an entry] sb into the lowest and the highest byte of entry 2, in either mode, of an equal value too
    goes_on (system 0xA0011008 full) 0 nine 0xA0011008 3074 0x00002C09 (set full 2 0)
    ∷ goes_on (system 0xA001100B full) 0 nine 0xA001100B 3074 0x09002C00 (set full 2 0)
    ∷ goes_on (system 0xA000100B full) 0 nine 0xA000100B 3074 0x00002C00 (set full 2 0)
    ∷ goes_on (user 0xA0011008 (set fresh_shadow 2 0x00001C00)) 1 nine 0xA0011008 3074 0x00002C09 (set (only 0 0x00002800) 1 0x00003800)
    ∷ goes_on (user 0xA001100B (set fresh_shadow 2 0x00001C00)) 1 nine 0xA001100B 3074 0x09002C00 (set (only 0 0x00002800) 1 0x00003800)
    -- [emptying: a half word of an entry] its low and its high one
    ∷ goes_on (system 0xA4011008 full) 0 nine 0xA4011008 3074 0x00000009 (set full 2 0)
    ∷ goes_on (user 0xA401100A (set fresh_shadow 2 0x00001C00)) 1 nine 0xA401100A 3074 0x00092C00 (set (only 0 0x00002800) 1 0x00003800)
    -- [emptying: the bytes beside an entry] empty their own entry's shadow: 1 and 3; none at or above PTL
    ∷ goes_on (system 0xA0011007 full) 0 nine 0xA0011007 3073 0x09001800 (set full 1 0)
    ∷ goes_on (system 0xA001100C full) 0 nine 0xA001100C 3075 0x00003B09 (set full 3 0)
    ∷ goes_on (system 0xA001101B full) 0 nine 0xA001101B 3078 0x09002800 full
    -- [fill: by a byte] lbu at an odd address, through the protected entry 2
    ∷ goes_on (user 0x90022ABD fresh_shadow) 1 (set nine 2 0x06) 0x90022ABD 2048 0x90022ABD (set (only 0 0x00002800) 2 0x00001C00)
    -- [fill: protected store of a byte] pfls with the byte's address
    ∷ fails (user 0xA0012ABD fresh_shadow) 1 (saving 16 4 0 0x2ABD) 6 2048 0xA0012ABD (set (only 0 0x00002800) 2 0x00001C00)
    -- [fill: none by a byte's failed test] a load to register 0 that faults
    ∷ fails (user 0x80004ABF fresh_shadow) 1 (saving 16 4 0 0x4ABF) 4 2048 0x80004ABF (only 0 0x00002800)
    -- [fill: none on a misaligned half word]
    ∷ interrupt (user 0xA4012ABD fresh_shadow) 1 (saving 4 4 0 95) false 2048 0xA4012ABD (only 0 0x00002800)
    ∷ interrupt (user 0x84022ABF fresh_shadow) 1 (saving 4 4 0 95) false 2048 0x84022ABF (only 0 0x00002800)
    ∷ []

-- the word w at guest address 0 with SR 8195, in a step in which TCOUNT falls from 1, with TLOAD 94
unfoldable pub struck : ℕ → ℕ → List ℕ → Outcome × Host
struck mode w sh =
    step (host_memory frames 3) (reply 0 0) (
      core (record { dpc = 0; pc = 4; sr = 8195; esr = 91; eca = 92; epc = 93; edpc = 94; edata = 95; mode = mode; emode = 0 }) nine 3 (record { tcount = 1; tload = 94 }),
      host (table 1 6) (set memory 2048 w) sh,
    )

-- the timer is loaded again, the handler entered with ECA, EPC, EDPC and EDATA; the registers, the latest fault and the host after it
unfoldable pub rings : Outcome × Host → ℕ → List ℕ → List ℕ → ℕ → Host → Bool
rings m mode saved r fault h =
    leaves m (0 ∷ 4 ∷ 0 ∷ 8195 ∷ saved ++ (0 ∷ mode ∷ [])) r fault false h && eqb m.0.core.timer.tcount 94

unfoldable pub ringing : List Bool
ringing =
    -- [13 behind a fill] a load in user mode: register 2, and the fetch's fill beside its own
    rings (struck 1 0x8C022ABC fresh_shadow) 1 (saving 8192 8 4 95) (set nine 2 (word 1711)) 3
    (host (table 1 6) (set memory 2048 0x8C022ABC) (set (only 0 0x00002800) 2 0x00001C00))
    -- [13 behind an emptying] a store into entry 0 empties the entry that its own fetch filled
    ∷ rings (struck 1 0xAC011000 fresh_shadow) 1 (saving 8192 8 4 95) nine 3
    (host (table 1 6) (set (set memory 2048 0xAC011000) 3072 9) (only 1 0x00003800))
    -- [13 behind a new table] movi2s to PTO empties all
    ∷ rings (struck 0 0x002001D1 full) 0 (saving 8192 8 4 95) nine 3 (host (table 9 6) (set memory 2048 0x002001D1) fresh_shadow)
    -- [13 beside a fault] a protected store: pfls is the level, its fill stands, nothing is written
    ∷ rings (struck 1 0xAC012ABC fresh_shadow) 1 (saving 8208 4 0 0x2ABC) nine 6
    (host (table 1 6) (set memory 2048 0xAC012ABC) (set (only 0 0x00002800) 2 0x00001C00))
    ∷ []

unfoldable pub all : List Bool → Bool
all [] = true
all (b ∷ bs) = b && all bs
