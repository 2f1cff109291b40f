-- Damage, condition by condition as docs/RULES.md#damage lists them.
use Rattle.std.specs.Prelude.{Bool, not, ◌&&◌, ◌||◌, List, ℕ, ◌+◌, ◌*◌, ◌/◌, ◌%◌, ltb, leb, eqb, get_or}
use Rattle.dlx.specs.Choice.{when◌then◌else◌}
use Rattle.dlx.specs.declared.partition.Partition.{Partition}
use Rattle.addresses.specs.Entries.{number, valid}
use Rattle.addresses.specs.Walk.{entries}
use Rattle.house.specs.Lists.{any, between}
use Rattle.house.specs.House.{partition, pages_of, runs, registers_of, frames_of, shadow_of, queues_of}
use Rattle.tickets.specs.Queues.{places_of, waiting_of}
use Rattle.house.specs.declared.House.{House}

-- boot's limits
abbrev pub whole_frames : ℕ → Bool
whole_frames words = eqb (words % 1024) 0 && between 1 (words / 1024) 1024

-- in a memory of so many frames, none for a partition: outside it, or frame 0, which the house keeps
abbrev pub frame_barred : ℕ → ℕ → Bool
frame_barred size f = leb size f || eqb f 0

unfoldable pub outside_limits : House → Bool
outside_limits h =
    not (between 1 h.count 8)
    || any (λ i. not (between 1 (pages_of h i) 256)) h.count
    || not (between 1 h.q 10000)
    || not (whole_frames h.words)
    || any (λ i. any (λ k. frame_barred (h.words / 1024) (get_or (frames_of h i) k 0)) (pages_of h i)) h.count

-- the k-th frame of partition i stands before it in its list, or in an earlier partition's
abbrev pub stands : List ℕ → ℕ → ℕ → Bool
stands fr n f = any (λ k. eqb (get_or fr k 0) f) n

unfoldable pub frame_twice : House → Bool
frame_twice h =
    any (λ i. any (λ k.
    stands (frames_of h i) k (get_or (frames_of h i) k 0)
    || any (λ j. stands (frames_of h j) (pages_of h j) (get_or (frames_of h i) k 0)) i) (pages_of h i)) h.count

-- the current partition isn't running, or its steps left are not 1..q; none is current while one runs
unfoldable pub turn_wrong : House → Bool
turn_wrong h =
    when eqb h.left 0 then not (eqb h.current 0) || any (runs h) 8
    else leb h.count h.current || not (runs h h.current) || ltb h.q h.left

-- register 0 is not zero, MODE or EMODE is above 1, or the latest fault above 7
unfoldable pub registers_wrong : House → Bool
registers_wrong h =
    any (λ i. not (eqb (get_or (registers_of h i) 0 0) 0)
    || ltb 1 (partition h i).processor.mode
    || ltb 1 (partition h i).processor.emode
    || ltb 7 (partition h i).fault) h.count

-- a shadow entry that is valid, and whose frame isn't its partition's; or anything but 0 in one that is empty, or in a valid one's unused bits
abbrev pub entry_wrong : List ℕ → ℕ → ℕ → Bool
entry_wrong fr n e =
    when valid e then not (stands fr n (number e)) || not (eqb (e % 1024) 0) else not (eqb e 0)

unfoldable pub shadow_wrong : House → Bool
shadow_wrong h = any (λ i. any (λ px. entry_wrong (frames_of h i) (pages_of h i) (get_or (shadow_of h i) px 0)) entries) h.count

-- anything but 0 in an unused place: behind a frame list, or of a partition that is not there
abbrev pub not_zero : List ℕ → ℕ → ℕ → Bool
not_zero l base size = any (λ k. not (eqb (get_or l (base + k) 0) 0)) size

unfoldable pub partition_used : Partition → Bool
partition_used p =
    not (eqb p.pages 0)
    || not (eqb p.processor.dpc 0)
    || not (eqb p.processor.pc 0)
    || not (eqb p.processor.sr 0)
    || not (eqb p.processor.esr 0)
    || not (eqb p.processor.eca 0)
    || not (eqb p.processor.epc 0)
    || not (eqb p.processor.edpc 0)
    || not (eqb p.processor.edata 0)
    || not (eqb p.processor.mode 0)
    || not (eqb p.processor.emode 0)
    || not (eqb p.table.pto 0)
    || not (eqb p.table.ptl 0)
    || not (eqb p.timer.tcount 0)
    || not (eqb p.timer.tload 0)
    || not (eqb p.fault 0)
    || not (eqb p.counter 0)

unfoldable pub unused_wrong : House → Bool
unused_wrong h =
    any (λ i.
    when ltb i h.count then any (λ k. leb (pages_of h i) k && not (eqb (get_or (frames_of h i) k 0) 0)) 256
    else runs h i
    || partition_used (partition h i)
    || not_zero h.regs (i * 32) 32
    || not_zero h.frames (i * 256) 256
    || not_zero h.shadows (i * entries) entries) 8

-- a count above 32, or of a partition that is not there; or anything but 0 in a place of a queue that no ticket uses
abbrev pub queue_wrong : House → ℕ → Bool
queue_wrong h j =
    ltb 32 (waiting_of (queues_of h) j)
    || (leb h.count j && not (eqb (waiting_of (queues_of h) j) 0))
    || any (λ k. leb (waiting_of (queues_of h) j) k && not (eqb (get_or (places_of (queues_of h) j) k 0) 0)) 32

unfoldable pub queues_wrong : House → Bool
queues_wrong h = any (queue_wrong h) 8

unfoldable pub damaged : House → Bool
damaged h =
    outside_limits h || frame_twice h || turn_wrong h || registers_wrong h || shadow_wrong h || unused_wrong h || queues_wrong h
