-- Turns, and the host step.
use Rattle.std.specs.Prelude.{Bool, false, ◌||◌, List, ℕ, zero, suc, ◌+◌, ◌-◌, ◌*◌, ◌%◌, ◌^◌, eqb, ltb, leb, get_or, set}
use Rattle.dlx.specs.Choice.{when◌then◌else◌}
use Rattle.dlx.specs.Machine.{Reply, Ops, Core, core, Outcome, Request, asked, step, Stretch}
use Rattle.dlx.specs.Processor.{with_processor, with_table, with_timer, with_counter, with_fault}
use Rattle.dlx.specs.declared.partition.Partition.{Partition}
use Rattle.dlx.specs.declared.partition.Table.{Table}
use Rattle.addresses.specs.Walk.{entries}
use Rattle.addresses.specs.Memory.{Host, host, stale, host_memory}
use Rattle.dlx.specs.Parts.{outer}
use Rattle.house.specs.House.{guests, turn, with_turn, with_guests, with_queues, partition, pages_of, registers_of, frames_of, shadow_of, queues_of}
use Rattle.tickets.specs.Queues.{Queues, desk}
use Rattle.house.specs.declared.House.{House}
use Rattle.house.specs.declared.Turn.{Turn}

-- the house and the lent memory
pub record World : Type 0 where
  pub house : House
  pub memory : List ℕ

abbrev pub world : House → List ℕ → World
world h m = record { house = h; memory = m }

-- ---- the next running partition in cyclic order, itself if alone

abbrev pub following : ℕ → ℕ → ℕ
following n i = when eqb (i + 1) n then 0 else i + 1

-- of the k partitions after i
unfoldable pub next_from : List Bool → ℕ → ℕ → ℕ → ℕ
next_from r n i zero = i
next_from r n i (suc k) = when get_or r (following n i) false then following n i else next_from r n (following n i) k

abbrev pub next_of : List Bool → ℕ → ℕ → ℕ
next_of r n i = next_from r n i n

-- The turn of c, who had l left, after so many steps of it: at 0 left, or after a trap taken in system mode, it passes, with q left.
unfoldable pub turn_of : List Bool → ℕ → ℕ → ℕ → ℕ → ℕ → Bool → Turn
turn_of r n q c l made calls = when eqb l made || calls then turn (next_of r n c) q else turn c (l - made)

abbrev pub turn_after : House → ℕ → Bool → Turn
turn_after h made calls = turn_of h.running h.count h.q h.current h.left made calls

-- ---- the host step

-- partition i as a guest, and its guest step
abbrev pub guest : World → ℕ → Core × Host
guest w i =
    let p = partition w.house i in
    (core p.processor (registers_of w.house i) p.fault p.timer, host p.table w.memory (shadow_of w.house i))

abbrev pub guest_memory : House → ℕ → Ops Host
guest_memory h i = host_memory (frames_of h i) (pages_of h i)

-- entry px of its shadow is stale: valid, and not what its table and its frame list give now
abbrev pub stale_at : World → ℕ → ℕ → Bool
stale_at w i px =
    let p = partition w.house i in
    stale (frames_of w.house i) p.pages p.table w.memory px (get_or (shadow_of w.house i) px 0)

-- what its step asks, the answer to it, and the queues after it
unfoldable pub request_now : World → ℕ → Request
request_now w i = asked (guest_memory w.house i) (guest w i)

unfoldable pub reply_now : World → ℕ → Reply
reply_now w i = (desk w.house.count i (queues_of w.house) (request_now w i)).0

unfoldable pub queues_next : World → ℕ → Queues
queues_next w i = (desk w.house.count i (queues_of w.house) (request_now w i)).1

unfoldable pub guest_step : World → ℕ → Outcome × Host
guest_step w i = step (guest_memory w.house i) (reply_now w i) (guest w i)

-- the partition with what its guest came to
abbrev pub with_guest : Partition → Core → Table → Partition
with_guest p c t = with_fault (with_timer (with_table (with_processor p c.processor) t) c.timer) c.fault

-- the partition after its step: its counter goes up by 1, modulo 2^64
abbrev pub counted : Partition → Outcome × Host → Partition
counted p o = with_counter (with_guest p o.0.core o.1.table) ((p.counter + 1) % 2 ^ 64)

-- the house in which partition i's step came to o, and the turn to t
unfoldable pub settled_house : House → ℕ → Outcome × Host → Turn → House
settled_house h i o t =
    with_guests (with_turn h h.running t)
    (guests
    (set h.parts i (counted (partition h i) o))
    (outer (i * 32) 32 h.regs o.0.core.registers)
    (outer (i * entries) entries h.shadows o.1.shadow))

unfoldable pub step_with : House → Outcome × Host → World
step_with h o = world (settled_house h h.current o (turn_after h 1 o.0.calls)) o.1.words

-- the world with the queues after the current partition's step
abbrev pub queued_on : World → World
queued_on w = world (with_queues w.house (queues_next w w.house.current)) w.memory

unfoldable pub host_step : World → World
host_step w = step_with (queued_on w).house (guest_step w w.house.current)

unfoldable pub host_steps : ℕ → World → World
host_steps zero w = w
host_steps (suc n) w = host_step (host_steps n w)

-- ---- a stretch of host steps in one turn

-- partition i after a stretch
abbrev pub counted_on : Partition → Stretch Host Queues → Partition
counted_on p r = with_counter (with_guest p r.core r.memory.table) ((p.counter + r.made) % 2 ^ 64)

-- the house in which a stretch of partition i came to r, and the turn to t
unfoldable pub stretched_house : House → ℕ → Stretch Host Queues → Turn → House
stretched_house h i r t =
    with_queues
    (with_guests (with_turn h h.running t)
    (guests
    (set h.parts i (counted_on (partition h i) r))
    (outer (i * 32) 32 h.regs r.core.registers)
    (outer (i * entries) entries h.shadows r.memory.shadow)))
    r.desk

-- ---- a stretch of a partition that is alone: where a turn of its ends, the next is its own too

-- how many of the steps to make it may have: all where it is alone, else those left of its turn
unfoldable pub span_of : Bool → ℕ → ℕ → ℕ
span_of alone l rest = when alone then rest else when leb l rest then l else rest

-- what is left of its turn after so many steps of it, where l was
unfoldable pub left_alone : ℕ → ℕ → ℕ → Bool → ℕ
left_alone q l made calls = when calls then q else when ltb made l then l - made else q - (made - l) % q

-- the turn then
unfoldable pub later_of : Bool → List Bool → ℕ → ℕ → ℕ → ℕ → ℕ → Bool → Turn
later_of alone r n q c l made calls = when alone then turn c (left_alone q l made calls) else turn_of r n q c l made calls

-- the house h with what a host step may change
abbrev pub house_at : House → ℕ → ℕ → List Partition → List ℕ → List ℕ → House
house_at h current left parts regs shadows = with_guests (with_turn h h.running (turn current left)) (guests parts regs shadows)
