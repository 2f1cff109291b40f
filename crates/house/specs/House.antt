-- The house's parts, the house of no partitions, and a house made from another one.
use Rattle.std.specs.Prelude.{Bool, false, List, ℕ, ◌*◌, get_or, replicate}
use Rattle.dlx.specs.Processor.{fresh_of, with_processor}
use Rattle.dlx.specs.declared.partition.Partition.{Partition}
use Rattle.dlx.specs.Parts.{inner}
use Rattle.addresses.specs.Walk.{entries}
use Rattle.tickets.specs.Queues.{Queues, queues}
use Rattle.house.specs.declared.House.{House}
use Rattle.house.specs.declared.Turn.{Turn}

-- the shadow entries of all partitions
abbrev pub all_entries : ℕ
all_entries = 8 * entries

-- every shadow empty
unfoldable pub fresh_shadows : List ℕ
fresh_shadows = replicate all_entries 0

-- a place that no partition uses
abbrev pub no_partition : Partition
no_partition =
    with_processor (fresh_of 0)
    (record { dpc = 0; pc = 0; sr = 0; esr = 0; eca = 0; epc = 0; edpc = 0; edata = 0; mode = 0; emode = 0 })

abbrev pub no_house : House
no_house = record {
  count = 0;
  q = 0;
  words = 0;
  current = 0;
  left = 0;
  running = replicate 8 false;
  parts = replicate 8 no_partition;
  regs = replicate 256 0;
  frames = replicate 2048 0;
  shadows = fresh_shadows;
  tickets = replicate 256 0;
  waiting = replicate 8 0;
}

-- ---- a house made from another one is made by these alone

-- what boot alone sets
pub record Layout : Type 0 where
  pub count : ℕ
  pub q : ℕ
  pub words : ℕ
  pub frames : List ℕ

-- what a guest's steps change
pub record Guests : Type 0 where
  pub parts : List Partition
  pub regs : List ℕ
  pub shadows : List ℕ

abbrev pub layout : ℕ → ℕ → ℕ → List ℕ → Layout
layout count q words frames = record { count = count; q = q; words = words; frames = frames }

abbrev pub guests : List Partition → List ℕ → List ℕ → Guests
guests parts regs shadows = record { parts = parts; regs = regs; shadows = shadows }

abbrev pub turn : ℕ → ℕ → Turn
turn c l = record { current = c; left = l }

abbrev pub layout_of : House → Layout
layout_of h = layout h.count h.q h.words h.frames

abbrev pub turn_now : House → Turn
turn_now h = turn h.current h.left

abbrev pub guests_of : House → Guests
guests_of h = guests h.parts h.regs h.shadows

abbrev pub queues_of : House → Queues
queues_of h = queues h.tickets h.waiting

-- h is there for a field that stands in none of these groups; today every field stands in one
abbrev remade : House → Layout → List Bool → Turn → Guests → Queues → House
remade h l running t g k = record {
  count = l.count;
  q = l.q;
  words = l.words;
  current = t.current;
  left = t.left;
  running = running;
  parts = g.parts;
  regs = g.regs;
  frames = l.frames;
  shadows = g.shadows;
  tickets = k.tickets;
  waiting = k.waiting;
}

abbrev pub with_layout : House → Layout → House
with_layout h l = remade h l h.running (turn_now h) (guests_of h) (queues_of h)

abbrev pub with_turn : House → List Bool → Turn → House
with_turn h running t = remade h (layout_of h) running t (guests_of h) (queues_of h)

abbrev pub with_guests : House → Guests → House
with_guests h g = remade h (layout_of h) h.running (turn_now h) g (queues_of h)

abbrev pub with_queues : House → Queues → House
with_queues h k = remade h (layout_of h) h.running (turn_now h) (guests_of h) k

abbrev pub with_frames : House → List ℕ → House
with_frames h v = with_layout h (layout h.count h.q h.words v)

abbrev pub with_parts : House → List Partition → House
with_parts h v = with_guests h (guests v h.regs h.shadows)

abbrev pub with_registers : House → List ℕ → House
with_registers h v = with_guests h (guests h.parts v h.shadows)

abbrev pub with_shadows : House → List ℕ → House
with_shadows h v = with_guests h (guests h.parts h.regs v)

-- ---- a house's partitions

abbrev pub partition : House → ℕ → Partition
partition h i = get_or h.parts i no_partition

abbrev pub pages_of : House → ℕ → ℕ
pages_of h i = (partition h i).pages

abbrev pub runs : House → ℕ → Bool
runs h i = get_or h.running i false

abbrev pub registers_of : House → ℕ → List ℕ
registers_of h i = inner (i * 32) 32 h.regs

abbrev pub frames_of : House → ℕ → List ℕ
frames_of h i = inner (i * 256) 256 h.frames

abbrev pub shadow_of : House → ℕ → List ℕ
shadow_of h i = inner (i * entries) entries h.shadows
