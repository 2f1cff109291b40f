-- Worked examples, as one list that proofs/Checked.antt checks by a single claim. Each row of the rules stands in square brackets, as docs/EXAMPLES.md
-- lists them. What the examples do not reach of a house's lists is left out.
use Rattle.std.specs.Prelude.{Bool, true, false, not, ◌&&◌, List, [], ◌∷◌, ◌++◌, ℕ, ◌+◌, ◌-◌, ◌*◌, ◌^◌, eqb, length, get_or, set, take, replicate}
use mir.Val.{bool_byte}
use Rattle.dlx.specs.Choice.{when◌then◌else◌}
use Rattle.dlx.specs.Processor.{fresh_of, with_processor, with_table, with_counter}
use Rattle.dlx.specs.Examples.{same}
use Rattle.dlx.specs.declared.partition.Partition.{Partition}
use Rattle.addresses.specs.Walk.{entries}
use Rattle.house.specs.Lists.{list_from, any}
use Rattle.house.specs.House.{no_partition, no_house, shadow_of, layout, guests, turn, with_layout, with_turn, with_guests}
use Rattle.house.specs.Turns.{World, world}
use Rattle.house.specs.declared.House.{House}
use Rattle.staleness.specs.Audit.{Finding, first_stale, audit_call, stale_counts, counts_call, mended, mend_call}

-- ---- a partition of three pages, in frames 2, 3 and 1 of a memory of four; its table is its page 1, so host words 3,072 and on, and has six entries

-- entries: 0 page 0, 1 the table's own page 1, 2 page 2 protected, 3 a page that is not there, 4 not valid, 5 page 2; behind them, 6 page 2
abbrev memory : List ℕ
memory = replicate 3072 0 ++ (0x00000800 ∷ 0x00001800 ∷ 0x00002C00 ∷ 0x00003800 ∷ 0x00002000 ∷ 0x00002800 ∷ 0x00002800 ∷ replicate 1017 0)

-- in a mode, 0 for system and 1 for user
abbrev guest : ℕ → Partition
guest mode =
    with_table (with_processor (fresh_of 3)
    (record { dpc = 0; pc = 4; sr = 0; esr = 0; eca = 0; epc = 0; edpc = 0; edata = 0; mode = mode; emode = 0 })) (record { pto = 1; ptl = 6 })

-- alone, with the shadow sh; running or stopped
abbrev alone : Bool → ℕ → List ℕ → House
alone runs mode sh =
    with_guests
    (with_turn (with_layout no_house (layout 1 2 4096 (2 ∷ 3 ∷ 1 ∷ []))) (runs ∷ []) (when runs then turn 0 2 else turn 0 0))
    (guests (guest mode ∷ []) [] sh)

-- behind a partition of frame 4 with the shadow sh, whose table has no valid word
abbrev second : List ℕ → List ℕ → World
second first sh =
    world
    (with_guests
    (with_turn (with_layout no_house (layout 2 2 5120 (4 ∷ replicate 255 0 ++ (2 ∷ 3 ∷ 1 ∷ [])))) (false ∷ true ∷ []) (turn 1 2))
    (guests (with_table (fresh_of 1) (record { pto = 0; ptl = 4 }) ∷ guest 1 ∷ []) [] (first ++ (replicate 1022 0 ++ sh))))
    (memory ++ replicate 1024 0)

-- ---- four partitions with six stale entries, whole lists, as no boot leads to them: turns of 1 step, and a counter about to go round

-- Partition 1 is the one above, the others have one page each, in frames 4, 5 and 6. Of 2 the table has no valid word; 3's page is its table, whose first three
-- words are page 0, and page 0 protected, twice.
abbrev pub theirs : ℕ → ℕ
theirs k =
    when eqb k 0 then 4 else when eqb k 256 then 2 else when eqb k 257 then 3 else when eqb k 258 then 1 else when eqb k 512 then 5 else when eqb k 768 then 6 else 0

-- Entry by entry of all shadows: none of partition 0; of 1 two that are right, a stale one, for its protection, and one that is right; of 2 three stale ones; of 3 one
-- that is right, a stale one, for its protection, one that is right, and the last, stale.
abbrev pub entered : ℕ → ℕ
entered k =
    when eqb k 1024 then 0x00002800 else when eqb k 1025 then 0x00003800 else when eqb k 1026 then 0x00001800 else when eqb k 1029 then 0x00001800 else
    when eqb k 2048 then 0x00005800 else when eqb k 2051 then 0x00005C00 else when eqb k 2748 then 0x00005800 else
    when eqb k 3072 then 0x00006800 else when eqb k 3073 then 0x00006800 else when eqb k 3074 then 0x00006C00 else when eqb k 4095 then 0x00006C00 else 0

-- and without the stale ones
abbrev pub remaining : ℕ → ℕ
remaining k =
    when eqb k 1024 then 0x00002800 else when eqb k 1025 then 0x00003800 else when eqb k 1029 then 0x00001800 else
    when eqb k 3072 then 0x00006800 else when eqb k 3074 then 0x00006C00 else 0

abbrev pub ours : List Partition
ours =
    with_counter (fresh_of 1) (2 ^ 64 - 1) ∷ guest 1 ∷ with_table (fresh_of 1) (record { pto = 0; ptl = 4 }) ∷ with_table (fresh_of 1) (record { pto = 0; ptl = 4 })
    ∷ replicate 4 no_partition

abbrev pub six_stale : World
six_stale =
    world
    (with_guests
    (with_turn (with_layout no_house (layout 4 1 7168 (list_from theirs 0 2048))) (true ∷ false ∷ true ∷ true ∷ replicate 4 false) (turn 0 1))
    (guests ours (replicate 256 0) (list_from entered 0 8192)))
    (memory ++ (replicate 2048 0 ++ (0x00000800 ∷ 0x00000C00 ∷ 0x00000C00 ∷ replicate 1021 0)))

-- in a memory that is not its own
abbrev pub outgrown : World
outgrown = world six_stale.house (0 ∷ six_stale.memory)

-- ---- what is looked at

unfoldable pub finds : Finding → ℕ → Bool → ℕ → ℕ → Bool
finds f number stale i px = same (f.number ∷ bool_byte f.stale ∷ f.partition ∷ f.page ∷ []) (number ∷ bool_byte stale ∷ i ∷ px ∷ [])

-- nothing is found in a shadow
unfoldable pub passes : Bool → ℕ → List ℕ → Bool
passes runs mode sh = finds (first_stale (world (alone runs mode sh) memory)) 0 false 0 0

-- page px is the first that is found, of n
unfoldable pub finding : Bool → ℕ → List ℕ → ℕ → ℕ → Bool
finding runs mode sh px n =
    let w = world (alone runs mode sh) memory in
    finds (first_stale w) 0 true 0 px && same (stale_counts w) (n ∷ replicate 7 0)

-- mending leaves this shadow
unfoldable pub leaves : List ℕ → List ℕ → Bool
leaves sh sh' = same (take (length sh') (mended (world (alone false 0 sh) memory)).house.shadows) sh'

-- the whole answer of a count
unfoldable pub tells : World → ℕ → List ℕ → Bool
tells w number each = same ((counts_call w).number ∷ (counts_call w).each) (number ∷ each)

-- the entries of four partitions differ from what is named
abbrev pub unlike : (ℕ → ℕ → ℕ) → (ℕ → ℕ) → Bool
unlike e f = any (λ i. any (λ px. not (eqb (e i px) (f (i * entries + px)))) entries) 4

-- the answer of a mend, with every entry of the four partitions that it leaves
unfoldable pub mends_to : World → ℕ → ℕ → (ℕ → ℕ) → Bool
mends_to w number detail f =
    let a = mend_call w in
    same (a.verdict.number ∷ a.verdict.detail ∷ []) (number ∷ detail ∷ []) && not (unlike (λ i px. get_or (shadow_of a.world.house i) px 0) f)

unfoldable pub audits : List Bool
audits =
    -- [audit: right] every entry that the table gives, and empty ones between them
    passes true 1 (0x00002800 ∷ 0x00003800 ∷ 0x00001C00 ∷ 0 ∷ 0 ∷ 0x00001800 ∷ [])
    ∷ passes true 1 []
    ∷ passes true 1 (0 ∷ 0x00003800 ∷ [])
    -- [audit: frame] [audit: the first page] a right one before it, and one behind it
    ∷ finding true 1 (0x00002800 ∷ 0x00002800 ∷ 0x00003C00 ∷ []) 1 2
    -- [audit: protection]
    ∷ finding true 1 (0x00002800 ∷ 0 ∷ 0x00001800 ∷ []) 2 1
    -- [audit: a fault] a page that is not there, an entry that is not valid, a page from PTL on
    ∷ finding true 1 (0 ∷ 0 ∷ 0 ∷ 0x00001800 ∷ []) 3 1
    ∷ finding true 1 (0 ∷ 0 ∷ 0 ∷ 0 ∷ 0x00001800 ∷ []) 4 1
    ∷ finding true 1 (0 ∷ 0 ∷ 0 ∷ 0 ∷ 0 ∷ 0x00001800 ∷ 0x00001800 ∷ []) 6 1
    -- [audit: a stopped partition] counts as a running one
    ∷ finding false 1 (0x00003800 ∷ []) 0 1
    ∷ passes false 1 (0x00002800 ∷ [])
    -- [audit: system mode] counts as user mode
    ∷ finding true 0 (0x00003800 ∷ []) 0 1
    ∷ passes true 0 (0x00002800 ∷ [])
    -- [audit: a word edited] of the table, by hand
    ∷ finds (first_stale (world (alone true 1 (0x00002800 ∷ 0x00003800 ∷ [])) (set memory 3073 0))) 0 true 0 1
    -- [audit: counts] stale entries, and no others
    ∷ finding true 1 (0x00001800 ∷ 0x00001800 ∷ 0x00001C00 ∷ 0x00001800 ∷ 0 ∷ 0x00001800 ∷ []) 0 3
    ∷ []

unfoldable pub partitions : List Bool
partitions =
    -- [audit: the first partition] before any page of a later one
    finds (first_stale (second (0 ∷ 0x00004800 ∷ []) (0x00003800 ∷ []))) 0 true 0 1
    ∷ finds (first_stale (second (0 ∷ 0 ∷ []) (0x00002800 ∷ 0x00002800 ∷ []))) 0 true 1 1
    ∷ same (stale_counts (second (0 ∷ 0x00004800 ∷ []) (0x00003800 ∷ 0x00002800 ∷ []))) (1 ∷ 2 ∷ replicate 6 0)
    ∷ []

unfoldable pub mendings : List Bool
mendings =
    -- [mend: exactly the stale ones]
    leaves (0x00001800 ∷ 0x00003800 ∷ 0x00001800 ∷ 0x00001800 ∷ 0 ∷ 0x00001800 ∷ 0x00001800 ∷ []) (0 ∷ 0x00003800 ∷ 0 ∷ 0 ∷ 0 ∷ 0x00001800 ∷ 0 ∷ [])
    ∷ leaves (0x00002800 ∷ 0x00003800 ∷ 0x00001C00 ∷ []) (0x00002800 ∷ 0x00003800 ∷ 0x00001C00 ∷ [])
    ∷ []

unfoldable pub refusals : List Bool
refusals =
    -- [audit: refusals] 8, and done
    finds (audit_call (world no_house (0 ∷ []))) 8 false 0 0
    ∷ finds (audit_call (world (alone true 1 (0x00003800 ∷ [])) memory)) 0 true 0 0
    ∷ tells (world no_house (0 ∷ [])) 8 (replicate 8 0)
    ∷ eqb (mend_call (world no_house (0 ∷ []))).verdict.number 8
    ∷ []

unfoldable pub several : List Bool
several =
    -- [audit: the first of several] with right ones before it
    finds (audit_call six_stale) 0 true 1 2
    -- [audit: counts of several] the whole answer
    ∷ tells six_stale 0 (0 ∷ 1 ∷ 3 ∷ 2 ∷ replicate 4 0)
    -- [mend: several] with how many there were; every entry of every partition
    ∷ mends_to six_stale 0 6 remaining
    -- [audit: refused whole] 9: no count, and nothing mended
    ∷ finds (audit_call outgrown) 9 false 0 0
    ∷ tells outgrown 9 (replicate 8 0)
    ∷ mends_to outgrown 9 0 entered
    ∷ []
