-- A house made from another one keeps its arrays' lengths and its numbers' sizes: a law for each update, so that a new field of the house is proved here.
use mathlib.Core.Path.{◌≡◌}
use mathlib.Core.Bool.{Bool, false}
use mathlib.Core.List.{List}
use Prim.Native.Nat.{ℕ, zero, suc, ◌^◌, ◌<◌}
use native.Mathlib.Omega.{arith}
use lib.ListN.{length, get_or, length-replicate, replicate}
use Rattle.dlx.specs.Processor.{fresh_of, with_processor}
use Rattle.dlx.specs.declared.partition.Partition.{Partition}
use Rattle.dlx.proofs.Tests.{get_or_replicate_same}
use Rattle.addresses.proofs.Kept.{zeros_words}
use Rattle.tickets.specs.Queues.{Queues}
use Rattle.house.specs.House.{all_entries, fresh_shadows, no_partition, no_house, Layout, Guests, with_layout, with_turn, with_guests, with_queues}
use Rattle.house.specs.Turns.{world}
use Rattle.house.specs.Sound.{Shaped, TypedPartition, Typed}
use Rattle.house.specs.declared.House.{House}
use Rattle.house.specs.declared.Turn.{Turn}

-- ---- every shadow empty

pub fresh_long : length fresh_shadows ≡ all_entries
unfolding fresh_shadows
fresh_long = length-replicate {A = ℕ} all_entries 0

pub fresh_at : (k : ℕ) → get_or fresh_shadows k 0 ≡ 0
unfolding fresh_shadows
fresh_at k = get_or_replicate_same all_entries 0 k

-- ---- the arrays' lengths

pub none_shaped : Shaped no_house
none_shaped = record {
  running = length-replicate {A = Bool} 8 false;
  parts = length-replicate {A = Partition} 8 no_partition;
  regs = length-replicate {A = ℕ} 256 0;
  frames = length-replicate {A = ℕ} 2048 0;
  shadows = fresh_long;
  tickets = length-replicate {A = ℕ} 256 0;
  waiting = length-replicate {A = ℕ} 8 0;
}

module _ (h : House) (s : Shaped h) where
  pub layout_shaped : (l : Layout) → length l.frames ≡ 2048 → Shaped (with_layout h l)
  layout_shaped l f = record {
    running = s.running;
    parts = s.parts;
    regs = s.regs;
    frames = f;
    shadows = s.shadows;
    tickets = s.tickets;
    waiting = s.waiting;
  }

  pub turn_shaped : (running : List Bool) (t : Turn) → length running ≡ 8 → Shaped (with_turn h running t)
  turn_shaped running t r = record {
    running = r;
    parts = s.parts;
    regs = s.regs;
    frames = s.frames;
    shadows = s.shadows;
    tickets = s.tickets;
    waiting = s.waiting;
  }

  pub guests_shaped : (g : Guests) → length g.parts ≡ 8 → length g.regs ≡ 256 → length g.shadows ≡ all_entries → Shaped (with_guests h g)
  guests_shaped g p r z = record {
    running = s.running;
    parts = p;
    regs = r;
    frames = s.frames;
    shadows = z;
    tickets = s.tickets;
    waiting = s.waiting;
  }

  pub queues_shaped : (k : Queues) → length k.tickets ≡ 256 → length k.waiting ≡ 8 → Shaped (with_queues h k)
  queues_shaped k t w = record {
    running = s.running;
    parts = s.parts;
    regs = s.regs;
    frames = s.frames;
    shadows = s.shadows;
    tickets = t;
    waiting = w;
  }

-- ---- the numbers' sizes

-- a partition of zeros but its PC and its pages
zeros_typed : (pc n : ℕ) → pc < 2 ^ 32 → n < 2 ^ 32
    → TypedPartition (with_processor (fresh_of n) (record { dpc = 0; pc = pc; sr = 0; esr = 0; eca = 0; epc = 0; edpc = 0; edata = 0; mode = 0; emode = 0 }))
zeros_typed pc n l m = record {
  pages = m;
  dpc = omega arith;
  pc = l;
  sr = omega arith;
  esr = omega arith;
  eca = omega arith;
  epc = omega arith;
  edpc = omega arith;
  edata = omega arith;
  mode = omega arith;
  emode = omega arith;
  pto = omega arith;
  ptl = omega arith;
  tcount = omega arith;
  tload = omega arith;
  counter = omega arith;
  fault = omega arith;
}

pub fresh_typed : (n : ℕ) → n < 2 ^ 32 → TypedPartition (fresh_of n)
fresh_typed n l = zeros_typed 4 n (omega arith) l

pub unused_typed : TypedPartition no_partition
unused_typed = zeros_typed 0 0 (omega arith) (omega arith)

unused_each : (n i : ℕ) → TypedPartition (get_or (replicate n no_partition) i no_partition)
unused_each zero i = unused_typed
unused_each (suc n) zero = unused_typed
unused_each (suc n) (suc i) = unused_each n i

pub none_typed : (m : List ℕ) → ((k : ℕ) → get_or m k 0 < 2 ^ 32) → Typed (world no_house m)
none_typed m t = record {
  shaped = none_shaped;
  count = omega arith;
  q = omega arith;
  words = omega arith;
  current = omega arith;
  left = omega arith;
  parts = unused_each 8;
  regs = zeros_words 256;
  frames = zeros_words 2048;
  shadows = λ k. rw (fresh_at k) (omega arith);
  tickets = zeros_words 256;
  waiting = zeros_words 8;
  memory = t;
}

module _ (h : House) (m : List ℕ) (y : Typed (world h m)) where
  pub layout_typed : (l : Layout) → l.count < 2 ^ 32 → l.q < 2 ^ 32 → l.words < 2 ^ 32 → length l.frames ≡ 2048
      → ((k : ℕ) → get_or l.frames k 0 < 2 ^ 32) → Typed (world (with_layout h l) m)
  layout_typed l c q w s f = record {
    shaped = layout_shaped h y.shaped l s;
    count = c;
    q = q;
    words = w;
    current = y.current;
    left = y.left;
    parts = y.parts;
    regs = y.regs;
    frames = f;
    shadows = y.shadows;
    tickets = y.tickets;
    waiting = y.waiting;
    memory = y.memory;
  }

  pub turn_typed : (running : List Bool) (t : Turn) → length running ≡ 8 → t.current < 2 ^ 32 → t.left < 2 ^ 32
      → Typed (world (with_turn h running t) m)
  turn_typed running t s c l = record {
    shaped = turn_shaped h y.shaped running t s;
    count = y.count;
    q = y.q;
    words = y.words;
    current = c;
    left = l;
    parts = y.parts;
    regs = y.regs;
    frames = y.frames;
    shadows = y.shadows;
    tickets = y.tickets;
    waiting = y.waiting;
    memory = y.memory;
  }

  pub guests_typed : (g : Guests) → Shaped (with_guests h g) → ((i : ℕ) → TypedPartition (get_or g.parts i no_partition))
      → ((k : ℕ) → get_or g.regs k 0 < 2 ^ 32) → ((k : ℕ) → get_or g.shadows k 0 < 2 ^ 32) → Typed (world (with_guests h g) m)
  guests_typed g s p r z = record {
    shaped = s;
    count = y.count;
    q = y.q;
    words = y.words;
    current = y.current;
    left = y.left;
    parts = p;
    regs = r;
    frames = y.frames;
    shadows = z;
    tickets = y.tickets;
    waiting = y.waiting;
    memory = y.memory;
  }

  pub queues_typed : (k : Queues) → Shaped (with_queues h k) → ((j : ℕ) → get_or k.tickets j 0 < 2 ^ 32)
      → ((j : ℕ) → get_or k.waiting j 0 < 2 ^ 32) → Typed (world (with_queues h k) m)
  queues_typed k s t w = record {
    shaped = s;
    count = y.count;
    q = y.q;
    words = y.words;
    current = y.current;
    left = y.left;
    parts = y.parts;
    regs = y.regs;
    frames = y.frames;
    shadows = y.shadows;
    tickets = t;
    waiting = w;
    memory = y.memory;
  }

  -- the same house in another memory
  pub memory_typed : (m' : List ℕ) → ((k : ℕ) → get_or m' k 0 < 2 ^ 32) → Typed (world h m')
  memory_typed m' t = record {
    shaped = y.shaped;
    count = y.count;
    q = y.q;
    words = y.words;
    current = y.current;
    left = y.left;
    parts = y.parts;
    regs = y.regs;
    frames = y.frames;
    shadows = y.shadows;
    tickets = y.tickets;
    waiting = y.waiting;
    memory = t;
  }
