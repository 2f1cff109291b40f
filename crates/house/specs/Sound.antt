-- What host steps need of a world: what the types and the damage check give.
use Rattle.std.specs.Prelude.{◌≡◌, true, false, List, ℕ, ◌/◌, ◌%◌, ◌^◌, ◌<◌, ◌≤◌, length, get_or}
use Rattle.dlx.specs.declared.partition.Partition.{Partition}
use Rattle.addresses.specs.Entries.{number, valid}
use Rattle.addresses.specs.Walk.{entries}
use Rattle.addresses.specs.Premises.{Placed, Own, Shadowed}
use Rattle.house.specs.House.{all_entries, no_partition, partition, pages_of, runs, registers_of, frames_of, shadow_of, queues_of}
use Rattle.house.specs.Damage.{damaged}
use Rattle.house.specs.Turns.{World}
use Rattle.tickets.specs.Queues.{waiting_of, ProperQueue}
use Rattle.house.specs.declared.House.{House}

-- the lengths of a house's arrays
pub record Shaped (h : House) : Type 0 where
  pub running : length h.running ≡ 8
  pub parts : length h.parts ≡ 8
  pub regs : length h.regs ≡ 256
  pub frames : length h.frames ≡ 2048
  pub shadows : length h.shadows ≡ all_entries
  pub tickets : length h.tickets ≡ 256
  pub waiting : length h.waiting ≡ 8

-- partition i's frames lie in the memory, each once, and its shadow's frames are its own
pub record SoundPartition (w : World) (i : ℕ) : Type 0 where
  pub placed : Placed (frames_of w.house i) (pages_of w.house i) (length w.memory)
  pub shadowed : Shadowed (frames_of w.house i) (pages_of w.house i) (shadow_of w.house i)

-- one partition is current, with steps left
pub record Sound (w : World) : Type 0 where
  pub shaped : Shaped w.house
  pub few : w.house.count ≤ 8
  pub each : (i : ℕ) → i < w.house.count → SoundPartition w i
  pub here : w.house.current < w.house.count
  pub left : 0 < w.house.left
  pub turns : 0 < w.house.q
  pub most : (j : ℕ) → waiting_of (queues_of w.house) j ≤ 32

-- ---- damage, denied condition by condition

-- a shadow entry: a valid one names an own frame and has 0 in its unused bits, any other is 0
pub record Proper (fr : List ℕ) (n e : ℕ) : Type 0 where
  pub own : valid e ≡ true → Own fr n (number e)
  pub bits : valid e ≡ true → e % 1024 ≡ 0
  pub empty : valid e ≡ false → e ≡ 0

-- a place that no partition uses
pub record Unused (h : House) (i : ℕ) : Type 0 where
  pub still : runs h i ≡ false
  pub none : partition h i ≡ no_partition
  pub regs : (k : ℕ) → k < 32 → get_or (registers_of h i) k 0 ≡ 0
  pub frames : (k : ℕ) → k < 256 → get_or (frames_of h i) k 0 ≡ 0
  pub shadows : (k : ℕ) → k < entries → get_or (shadow_of h i) k 0 ≡ 0

pub record Undamaged (h : House) : Type 0 where
  -- boot's limits
  pub some : 1 ≤ h.count
  pub few : h.count ≤ 8
  pub pages : (i : ℕ) → i < h.count → (1 ≤ pages_of h i) × (pages_of h i ≤ 256)
  pub turns : (1 ≤ h.q) × (h.q ≤ 10000)
  pub whole : h.words % 1024 ≡ 0
  pub size : (1 ≤ h.words / 1024) × (h.words / 1024 ≤ 1024)
  pub inside : (i k : ℕ) → i < h.count → k < pages_of h i → get_or (frames_of h i) k 0 < h.words / 1024
  pub kept : (i k : ℕ) → i < h.count → k < pages_of h i → get_or (frames_of h i) k 0 ≡ 0 → ⊥
  -- no frame stands twice
  pub once : (i j k l : ℕ) → i < h.count → j < h.count → k < pages_of h i → l < pages_of h j
      → get_or (frames_of h i) k 0 ≡ get_or (frames_of h j) l 0 → (i ≡ j) × (k ≡ l)
  -- none current, or one that runs
  pub idle : h.left ≡ 0 → (h.current ≡ 0) × ((i : ℕ) → i < 8 → runs h i ≡ false)
  pub busy : (h.left ≡ 0 → ⊥) → (h.current < h.count) × (runs h h.current ≡ true) × (h.left ≤ h.q)
  -- register 0, MODE, EMODE and the latest fault
  pub first : (i : ℕ) → i < h.count → get_or (registers_of h i) 0 0 ≡ 0
  pub mode : (i : ℕ) → i < h.count → (partition h i).processor.mode ≤ 1
  pub emode : (i : ℕ) → i < h.count → (partition h i).processor.emode ≤ 1
  pub fault : (i : ℕ) → i < h.count → (partition h i).fault ≤ 7
  -- the shadows
  pub proper : (i px : ℕ) → i < h.count → px < entries → Proper (frames_of h i) (pages_of h i) (get_or (shadow_of h i) px 0)
  -- unused places
  pub behind : (i k : ℕ) → i < h.count → pages_of h i ≤ k → k < 256 → get_or (frames_of h i) k 0 ≡ 0
  pub unused : (i : ℕ) → h.count ≤ i → i < 8 → Unused h i
  -- the queues
  pub queued : (j : ℕ) → j < 8 → ProperQueue h.count (queues_of h) j

-- ---- what the types give

pub record TypedPartition (p : Partition) : Type 0 where
  pub pages : p.pages < 2 ^ 32
  pub dpc : p.processor.dpc < 2 ^ 32
  pub pc : p.processor.pc < 2 ^ 32
  pub sr : p.processor.sr < 2 ^ 32
  pub esr : p.processor.esr < 2 ^ 32
  pub eca : p.processor.eca < 2 ^ 32
  pub epc : p.processor.epc < 2 ^ 32
  pub edpc : p.processor.edpc < 2 ^ 32
  pub edata : p.processor.edata < 2 ^ 32
  pub mode : p.processor.mode < 2 ^ 32
  pub emode : p.processor.emode < 2 ^ 32
  pub pto : p.table.pto < 2 ^ 32
  pub ptl : p.table.ptl < 2 ^ 32
  pub tcount : p.timer.tcount < 2 ^ 32
  pub tload : p.timer.tload < 2 ^ 32
  pub counter : p.counter < 2 ^ 64
  pub fault : p.fault < 2 ^ 32

pub record Typed (w : World) : Type 0 where
  pub shaped : Shaped w.house
  pub count : w.house.count < 2 ^ 32
  pub q : w.house.q < 2 ^ 32
  pub words : w.house.words < 2 ^ 32
  pub current : w.house.current < 2 ^ 32
  pub left : w.house.left < 2 ^ 32
  pub parts : (i : ℕ) → TypedPartition (partition w.house i)
  pub regs : (k : ℕ) → get_or w.house.regs k 0 < 2 ^ 32
  pub frames : (k : ℕ) → get_or w.house.frames k 0 < 2 ^ 32
  pub shadows : (k : ℕ) → get_or w.house.shadows k 0 < 2 ^ 32
  pub tickets : (k : ℕ) → get_or w.house.tickets k 0 < 2 ^ 32
  pub waiting : (k : ℕ) → get_or w.house.waiting k 0 < 2 ^ 32
  pub memory : (k : ℕ) → get_or w.memory k 0 < 2 ^ 32

-- ---- a host step can be made

-- not damaged, in the memory of its size, with one current
pub record Ready (w : World) : Type 0 where
  pub typed : Typed w
  pub whole : Undamaged w.house
  pub size : length w.memory ≡ w.house.words
  pub busy : w.house.left ≡ 0 → ⊥

-- ---- what every call leaves

-- the house as boot laid it out: nothing but boot changes this
pub record LaidOut (h h' : House) : Type 0 where
  pub count : h'.count ≡ h.count
  pub q : h'.q ≡ h.q
  pub words : h'.words ≡ h.words
  pub frames : h'.frames ≡ h.frames
  pub pages : (i : ℕ) → pages_of h' i ≡ pages_of h i

-- the world w' that a call on w leaves: its house is not damaged
pub record Stays (w w' : World) : Type 0 where
  pub typed : Typed w'
  pub whole : damaged w'.house ≡ false
  pub layout : LaidOut w.house w'.house
  pub size : length w'.memory ≡ length w.memory
