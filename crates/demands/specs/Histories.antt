-- Histories: a boot that is done, then any calls, house and memory handed on untouched; and the lone machine of each partition.
use Rattle.std.specs.Prelude.{◌≡◌, Bool, true, not, ◌&&◌, List, [], ◌∷◌, ◌++◌, ℕ, zero, suc, ◌+◌, ◌*◌, ◌/◌, ◌%◌, eqb, ltb, length, get_or, replicate}
use Rattle.dlx.specs.Choice.{when◌then◌else◌}
use Rattle.dlx.specs.Processor.{fresh_processor, no_timer}
use Rattle.dlx.specs.Machine.{Reply, Core, core, Request, asked, reply}
use Rattle.addresses.specs.Memory.{Lone, lone, lone_memory, host_word}
use Rattle.house.specs.Lists.{list_from}
use Rattle.house.specs.House.{partition, pages_of, runs, registers_of, frames_of, queues_of}
use Rattle.tickets.specs.Queues.{queue_of, ruled, sent_to, taken_by}
use Rattle.house.specs.Boot.{boot_verdict, booted_house, offset}
use Rattle.house.specs.Turns.{World, world, guest_step, host_steps}
use Rattle.house.specs.Calls.{run_call, start_call, stop_call, empty_call, read_call}

-- ---- histories

-- a boot that is done
pub record Boot : Type 0 where
  pub pages : List ℕ
  pub q : ℕ
  pub frames : List ℕ
  pub memory : List ℕ
  pub done : (boot_verdict pages q frames (length memory)).number ≡ 0

abbrev pub booted : Boot → World
booted b = world (booted_house b.pages b.q b.frames (length b.memory)) b.memory

-- a call after boot, with any arguments
pub data Call : Type 0 where
  run : ℕ → Call
  start : ℕ → Call
  stop : ℕ → Call
  empty : ℕ → Call
  read_out : ℕ → ℕ → ℕ → List ℕ → Call

-- the house and the memory after a call, done or refused
unfoldable pub after : Call → World → World
after (run k) w = (run_call w k).world
after (start i) w = (start_call w i).world
after (stop i) w = (stop_call w i).world
after (empty i) w = (empty_call w i).world
after (read_out i a n out) w = world (read_call w i a n out).house w.memory

unfoldable pub history : List Call → World → World
history [] w = w
history (c ∷ cs) w = history cs (after c w)

-- w is grown from the boot b
abbrev pub Grown : Boot → World → Type 0
Grown b w = (cs : List Call) × (w ≡ history cs (booted b))

-- ---- whose steps a history made

-- of k host steps, those of partition i
unfoldable pub turns_in : ℕ → World → ℕ → ℕ
turns_in zero w i = 0
turns_in (suc k) w i = (when eqb (host_steps k w).house.current i then 1 else 0) + turns_in k w i

-- the host steps of a call, and those of partition i among them: a done run's
unfoldable pub steps_of : Call → World → ℕ
steps_of (run k) w = when eqb (run_call w k).verdict.number 0 then k else 0
steps_of (start i) w = 0
steps_of (stop i) w = 0
steps_of (empty i) w = 0
steps_of (read_out i a n out) w = 0

unfoldable pub steps_made : List Call → World → ℕ
steps_made [] w = 0
steps_made (c ∷ cs) w = steps_of c w + steps_made cs (after c w)

unfoldable pub turns_made : List Call → World → ℕ → ℕ
turns_made [] w i = 0
turns_made (c ∷ cs) w i = turns_in (steps_of c w) w i + turns_made cs (after c w) i

-- partition i stays running: it runs after every prefix of the calls
abbrev pub StaysRunning : List Call → World → ℕ → Type 0
StaysRunning cs w i = (first rest : List Call) → cs ≡ first ++ rest → runs (history first w).house i ≡ true

-- ---- what fair shares leave out

-- the host step from w ends its turn early: it is not the last of the turn, and the guest calls the hypervisor, by a trap taken in system mode. A ticket sent
-- or taken does not call it.
unfoldable pub ends_early : World → Bool
ends_early w = ltb 1 w.house.left && (guest_step w w.house.current).0.calls

-- of k host steps, those that do
unfoldable pub early_ends_in : ℕ → World → ℕ
early_ends_in zero w = 0
early_ends_in (suc k) w = (when ends_early (host_steps k w) then 1 else 0) + early_ends_in k w

unfoldable pub early_ends : List Call → World → ℕ
early_ends [] w = 0
early_ends (c ∷ cs) w = early_ends_in (steps_of c w) w + early_ends cs (after c w)

-- a start of a stopped partition or a stop of a running one, that is done: any other start or stop changes nothing
unfoldable pub start_or_stop : Call → World → ℕ
start_or_stop (run k) w = 0
start_or_stop (start i) w = when eqb (start_call w i).verdict.number 0 && not (runs w.house i) then 1 else 0
start_or_stop (stop i) w = when eqb (stop_call w i).verdict.number 0 && runs w.house i then 1 else 0
start_or_stop (empty i) w = 0
start_or_stop (read_out i a n out) w = 0

unfoldable pub starts_and_stops : List Call → World → ℕ
starts_and_stops [] w = 0
starts_and_stops (c ∷ cs) w = start_or_stop c w + starts_and_stops cs (after c w)

-- ---- the lone machine of partition i: its registers and special registers, its timer, its table, and the words of its pages

abbrev pub own_words : World → ℕ → List ℕ
own_words w i = list_from (host_word (frames_of w.house i) w.memory) 0 (pages_of w.house i * 1024)

unfoldable pub lone_of : World → ℕ → Core × Lone
lone_of w i =
    let p = partition w.house i in
    (core p.processor (registers_of w.house i) p.fault p.timer, lone p.table (own_words w i))

-- as it starts: all registers zero but PC = 4, the timer's too, no fault yet, and the words that its frames hold at boot
unfoldable pub lone_at_boot : Boot → ℕ → Core × Lone
lone_at_boot b i = (
  core fresh_processor (replicate 32 0) 0 no_timer,
  lone (record { pto = 0; ptl = 0 })
      (list_from (λ j. get_or b.memory (get_or b.frames (offset b.pages i + j / 1024) 0 * 1024 + j % 1024) 0) 0 (get_or b.pages i 0 * 1024)),
)

-- ---- tickets: what a history asked and answered

-- what partition i's step would ask now, by its own lone machine, and what the rules answer, by the queues as lists
abbrev pub queue_in : World → ℕ → List ℕ
queue_in w j = queue_of (queues_of w.house) j

unfoldable pub lone_asks : World → ℕ → Request
lone_asks w i = asked (lone_memory (pages_of w.house i)) (lone_of w i)

unfoldable pub lone_answer : World → ℕ → Reply
lone_answer w i = ruled w.house.count i (queue_in w) (lone_asks w i)

-- one host step: whose it was, what it asked and what it was answered
pub record Event : Type 0 where
  pub who : ℕ
  pub asks : Request
  pub answer : Reply

unfoldable pub event_of : World → Event
event_of w = let i = w.house.current in record { who = i; asks = lone_asks w i; answer = lone_answer w i }

unfoldable pub log_in : ℕ → World → List Event
log_in zero w = []
log_in (suc k) w = log_in k w ++ (event_of (host_steps k w) ∷ [])

-- the host steps of a history, in order
unfoldable pub log_of : List Call → World → List Event
log_of [] w = []
log_of (c ∷ cs) w = log_in (steps_of c w) w ++ log_of cs (after c w)

-- read off a log
unfoldable pub each : {A : Type 0} → (Event → List A) → List Event → List A
each f [] = []
each f (e ∷ es) = f e ++ each f es

-- the answers at partition i's own steps; the tickets sent done to j; the tickets taken by j
abbrev pub answers_to : ℕ → List Event → List Reply
answers_to i = each (λ e. when eqb e.who i then e.answer ∷ [] else [])

abbrev pub tickets_to : ℕ → List Event → List ℕ
tickets_to j = each (λ e. sent_to e.asks e.answer j)

abbrev pub tickets_off : ℕ → List Event → List ℕ
tickets_off j = each (λ e. taken_by e.who e.asks e.answer j)

-- the feed of partition i's lone machine, by its own step numbers
abbrev pub feed_of : List Call → World → ℕ → ℕ → Reply
feed_of cs w i k = get_or (answers_to i (log_of cs w)) k (reply 0 0)
