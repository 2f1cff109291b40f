-- The three demands, as statements about the definitions that the calls' contracts cite. proofs/Demands.antt proves each.
use Rattle.std.specs.Prelude.{◌≡◌, Bool, true, false, not, List, ◌++◌, ℕ, ◌+◌, ◌-◌, ◌*◌, ◌/◌, ◌%◌, ◌^◌, ◌<◌, ◌≤◌, eqb, length, get_or, drop}
use Rattle.dlx.specs.Choice.{when◌then◌else◌}
use Rattle.dlx.specs.Machine.{step, steps}
use Rattle.addresses.specs.Entries.{number, valid, protection, refused, protected_page, Found, fault, found}
use Rattle.addresses.specs.Memory.{word_in, lone_found, lone_memory, served}
use Rattle.addresses.specs.Premises.{Own}
use Rattle.house.specs.Lists.{list_from}
use Rattle.house.specs.House.{no_house, partition, pages_of, runs, registers_of, frames_of, shadow_of, queues_of, turn, turn_now}
use Rattle.house.specs.Damage.{damaged}
use Rattle.house.specs.Turns.{World, world, turn_of, guest, host_step, host_steps}
use Rattle.house.specs.Sound.{Shaped, LaidOut, Typed}
use Rattle.house.specs.Calls.{Answered, boot_call, run_call, start_call, stop_call, empty_call, read_call}
use Rattle.demands.specs.Histories.{Boot, booted, Call, history, Grown, turns_made, steps_made, StaysRunning, early_ends, starts_and_stops, lone_of, lone_at_boot, queue_in, lone_asks, lone_answer, log_of, tickets_to, tickets_off, feed_of}
use Rattle.tickets.specs.Queues.{waiting_of, queue_of, lined, Moved}
use Rattle.house.specs.declared.House.{House}

-- ---- demand 1

-- A call refused leaves house and memory as they were.
abbrev pub Untouched : Answered → World → Type 0
Untouched a w = (a.verdict.number ≡ 0 → ⊥) → a.world ≡ w

-- Refused means untouched, for every call: boot gives the house of no partitions, a read-out writes nothing.
pub record RefusedMeansUntouched : Type 0 where
  pub boot : (ps fr m : List ℕ) (q : ℕ) → Untouched (boot_call ps q fr m) (world no_house m)
  pub run : (w : World) (k : ℕ) → Untouched (run_call w k) w
  pub start : (w : World) (i : ℕ) → Untouched (start_call w i) w
  pub stop : (w : World) (i : ℕ) → Untouched (stop_call w i) w
  pub empty : (w : World) (i : ℕ) → Untouched (empty_call w i) w
  pub read : (w : World) (i a n : ℕ) (out : List ℕ) → let r = read_call w i a n out in
      (r.verdict.number ≡ 0 → ⊥) → (r.house ≡ w.house) × (r.output ≡ out)

-- Two memories have the same words in partition i's frames; a memory keeps every word of every other frame.
abbrev pub AgreeOn : House → ℕ → List ℕ → List ℕ → Type 0
AgreeOn h i m m' = (k j : ℕ) → k < pages_of h i → j < 1024 →
    get_or m (get_or (frames_of h i) k 0 * 1024 + j) 0 ≡ get_or m' (get_or (frames_of h i) k 0 * 1024 + j) 0

abbrev pub KeepsFramesNotOf : House → ℕ → List ℕ → List ℕ → Type 0
KeepsFramesNotOf h i m m' = (f j : ℕ) → (Own (frames_of h i) (pages_of h i) f → ⊥) → j < 1024 → get_or m' (f * 1024 + j) 0 ≡ get_or m (f * 1024 + j) 0

-- All that a step of partition i may change in a house is i's own record, registers and shadow, the turn, and one ticket: of its own queue, by a take, or
-- of the receiver's, by a send that is done.
pub record OwnAndOneTicket (h h' : House) (i : ℕ) : Type 0 where
  pub records : (j : ℕ) → j < 8 → (j ≡ i → ⊥) → partition h' j ≡ partition h j
  pub registers : (j : ℕ) → j < 8 → (j ≡ i → ⊥) → registers_of h' j ≡ registers_of h j
  pub shadows : (j : ℕ) → j < 8 → (j ≡ i → ⊥) → shadow_of h' j ≡ shadow_of h j
  pub layout : LaidOut h h'
  pub running : h'.running ≡ h.running
  pub queues : Moved h.count i (queue_of (queues_of h)) (queue_of (queues_of h'))

-- A host step can be made: the house is not damaged, the memory has its size, and one is current. The lengths of its arrays are what their types give.
pub record MayStep (w : World) : Type 0 where
  pub shaped : Shaped w.house
  pub whole : damaged w.house ≡ false
  pub size : length w.memory ≡ w.house.words
  pub busy : w.house.left ≡ 0 → ⊥

-- Two houses have the same of partition i, its record, registers, frame list and shadow; the same count and queues; and the same of what a turn asks for.
pub record SameFor (h h' : House) (i : ℕ) : Type 0 where
  pub part : partition h i ≡ partition h' i
  pub registers : registers_of h i ≡ registers_of h' i
  pub frames : frames_of h i ≡ frames_of h' i
  pub shadow : shadow_of h i ≡ shadow_of h' i
  pub count : h.count ≡ h'.count
  pub queues : queues_of h ≡ queues_of h'
  pub turn : turn_now h ≡ turn_now h'
  pub q : h.q ≡ h'.q
  pub running : h.running ≡ h'.running

-- One host step in each of two houses: partition i and its frames, the queues and the turn come to the same in both, and each keeps all else as it was.
pub record OwnAlone (w w' x x' : World) (i : ℕ) : Type 0 where
  pub same : SameFor x.house x'.house i
  pub own : AgreeOn w.house i x.memory x'.memory
  pub foreign : KeepsFramesNotOf w.house i w.memory x.memory
  pub foreign' : KeepsFramesNotOf w'.house i w'.memory x'.memory
  pub rest : OwnAndOneTicket w.house x.house i
  pub rest' : OwnAndOneTicket w'.house x'.house i

-- Isolation: a step depends on nothing but what two such houses have in common and on the own frames, right shadows or wrong. The other partitions, in
-- records, registers, pages, frames and shadows, and the sizes of the memories may be whatever they may be in a house that is not damaged.
abbrev pub Isolation : Type 0
Isolation = (w w' : World) → MayStep w → MayStep w' → let i = w.house.current in
    SameFor w.house w'.house i → AgreeOn w.house i w.memory w'.memory → OwnAlone w w' (host_step w) (host_step w') i

-- Every step: before each host step of a run that is done, of any house, stands one that is not damaged, over a memory of its size, with one current. So
-- Isolation speaks of it. Typed is what the types of the house's numbers give.
abbrev pub EveryStep : Type 0
EveryStep = (w : World) (k j : ℕ) → Typed w → (run_call w k).verdict.number ≡ 0 → j < k → Typed (host_steps j w) × MayStep (host_steps j w)

-- Isolation of a run: frames that belong to no partition are never read and never changed.
abbrev pub RunIsolation : Type 0
RunIsolation = (h : House) (m m' : List ℕ) (k : ℕ) → Shaped h → length m ≡ length m' → ((i : ℕ) → i < h.count → AgreeOn h i m m') →
    let a = run_call (world h m) k in
    let a' = run_call (world h m') k in
    (a.verdict ≡ a'.verdict)
    × (a.world.house ≡ a'.world.house)
    × ((i : ℕ) → i < h.count → AgreeOn h i a.world.memory a'.world.memory)
    × ((f j : ℕ) → ((i : ℕ) → i < h.count → Own (frames_of h i) (pages_of h i) f → ⊥) → j < 1024 →
    get_or a.world.memory (f * 1024 + j) 0 ≡ get_or m (f * 1024 + j) 0)

-- Two memories are alike outside frame 0; a memory keeps every word of it.
abbrev pub AgreeBeyondFrame0 : List ℕ → List ℕ → Type 0
AgreeBeyondFrame0 m m' = (x : ℕ) → 1024 ≤ x → get_or m x 0 ≡ get_or m' x 0

abbrev pub KeepsFrame0 : List ℕ → List ℕ → Type 0
KeepsFrame0 m m' = (x : ℕ) → x < 1024 → get_or m' x 0 ≡ get_or m x 0

-- A run of k steps in two memories answers the same, and the memories stay apart by frame 0 alone, as it was in each.
abbrev pub ApartInFrame0 : House → List ℕ → List ℕ → ℕ → Type 0
ApartInFrame0 h m m' k =
    let a = run_call (world h m) k in
    let a' = run_call (world h m') k in
    (a.verdict ≡ a'.verdict)
    × (a.world.house ≡ a'.world.house)
    × AgreeBeyondFrame0 a.world.memory a'.world.memory
    × KeepsFrame0 m a.world.memory
    × KeepsFrame0 m' a'.world.memory

-- Frame 0 is the house's: no run reads or changes a word of it, from any house. A damaged one, which might hold it, is refused.
abbrev pub Frame0 : Type 0
Frame0 = (h : House) (m m' : List ℕ) (k : ℕ) → Shaped h → length m ≡ length m' → AgreeBeyondFrame0 m m' → ApartInFrame0 h m m' k

-- ---- demand 2: w is any house and memory grown from a boot by calls, done or refused

-- Every boot that is done is a `Boot` of those very arguments, and what it left is what all histories begin with.
pub record BootOf (ps : List ℕ) (q : ℕ) (fr m : List ℕ) : Type 0 where
  pub boot : Boot
  pub pages : boot.pages ≡ ps
  pub turns : boot.q ≡ q
  pub frames : boot.frames ≡ fr
  pub memory : boot.memory ≡ m
  pub left : (boot_call ps q fr m).world ≡ booted boot

abbrev pub EveryBoot : Type 0
EveryBoot = (ps : List ℕ) (q : ℕ) (fr m : List ℕ) → (boot_call ps q fr m).verdict.number ≡ 0 → BootOf ps q fr m

-- Never damaged, the memory's words being what their type gives: no call is refused with 8, so that refusing all is no answer.
abbrev pub NeverDamaged : Type 0
NeverDamaged = (b : Boot) → ((i : ℕ) → get_or b.memory i 0 < 2 ^ 32) → (w : World) → Grown b w → damaged w.house ≡ false

-- Step: a host step is exactly one lone step of the partition whose turn it is; no other partition's registers or pages change; the counter goes up
-- by 1; the turn passes at 0 left or after a trap taken in system mode. The answer is what the rules say of what the lone machine asks and of the queues
-- as lists; each queue has then what is sent done to it behind, and what is taken by its partition gone.
pub record StepOf (w w' : World) (i : ℕ) : Type 0 where
  pub own : lone_of w' i ≡ (let o = step (lone_memory (pages_of w.house i)) (lone_answer w i) (lone_of w i) in (o.0.core, o.1))
  pub others : (j : ℕ) → j < w.house.count → (j ≡ i → ⊥) → lone_of w' j ≡ lone_of w j
  pub counters : (j : ℕ) → j < w.house.count → (partition w'.house j).counter ≡
      (when eqb j i then ((partition w.house j).counter + 1) % 2 ^ 64 else (partition w.house j).counter)
  pub turns : turn w'.house.current w'.house.left ≡
      turn_of w.house.running w.house.count w.house.q i w.house.left 1 (step (lone_memory (pages_of w.house i)) (lone_answer w i) (lone_of w i)).0.calls
  pub running : w'.house.running ≡ w.house.running
  pub queues : (j : ℕ) → j < w.house.count → queue_in w' j ≡ lined i (lone_asks w i) (lone_answer w i) (queue_in w j) j

abbrev pub Step : Type 0
Step = (b : Boot) (w : World) → Grown b w → (w.house.left ≡ 0 → ⊥) → StepOf w (host_step w) w.house.current

-- Within runs: before each host step of a run that is done stands a grown house with one current, so that Step speaks of it.
abbrev pub WithinRuns : Type 0
WithinRuns = (b : Boot) (w : World) → Grown b w → (k j : ℕ) → (run_call w k).verdict.number ≡ 0 → j < k →
    Grown b (host_steps j w) × ((host_steps j w).house.left ≡ 0 → ⊥)

-- Where an access lands: a word of the host's memory, or a fault by its number.
pub data Landing : Type 0 where
  fails : ℕ → Landing
  word : ℕ → Landing

-- through partition i's shadow, which is filled where its entry is empty
abbrev pub by_shadow : World → ℕ → Bool → Bool → ℕ → Landing
by_shadow w i store user a =
    let e = (served (frames_of w.house i) (pages_of w.house i) (guest w i).1 user a).0 in
    when not (valid e) then fails e else
    when refused store (protection e) then fails protected_page else
    word (word_in (number e) a)

-- by the guest's own table, followed by the host's list
unfoldable pub listed : List ℕ → Bool → ℕ → Found → Landing
listed fr store a (fault x) = fails x
listed fr store a (found k p) = when refused store p then fails protected_page else word (word_in (get_or fr k 0) a)

abbrev pub by_table : World → ℕ → Bool → Bool → ℕ → Landing
by_table w i store user a = listed (frames_of w.house i) store a (lone_found (pages_of w.house i) (lone_of w i).1 user a)

-- Reach: for every address and access the shadow gives the same address, or the same fault by its number, as the guest's table and the host's list.
abbrev pub Reach : Type 0
Reach = (b : Boot) (w : World) → Grown b w → (i : ℕ) → i < w.house.count → (store user : Bool) (a : ℕ) →
    by_shadow w i store user a ≡ by_table w i store user a

-- ---- demand 3

-- Histories: each partition is where a lone machine stands that started from its pages at boot, after as many steps as its turns gave it, fed the same
-- ticket answers at the same step numbers of its own; its counter has that number modulo 2^64.
abbrev pub Histories : Type 0
Histories = (b : Boot) (cs : List Call) (i : ℕ) → i < length b.pages →
    let w = history cs (booted b) in
    let n = turns_made cs (booted b) i in
    (lone_of w i ≡ steps (lone_memory (get_or b.pages i 0)) (feed_of cs (booted b) i) n (lone_at_boot b i))
    × ((partition w.house i).counter ≡ n % 2 ^ 64)

-- the answers to partition i are the same in both
abbrev pub SameAnswers : Boot → List Call → List Call → ℕ → Type 0
SameAnswers b cs cs' i = (k : ℕ) → k < turns_made cs (booted b) i → feed_of cs (booted b) i k ≡ feed_of cs' (booted b) i k

-- Two histories from one boot that gave a partition as many steps and the same ticket answers leave it equal.
abbrev pub EqualGuests : Type 0
EqualGuests = (b : Boot) (cs cs' : List Call) (i : ℕ) → i < length b.pages → turns_made cs (booted b) i ≡ turns_made cs' (booted b) i → SameAnswers b cs cs' i →
    lone_of (history cs (booted b)) i ≡ lone_of (history cs' (booted b)) i

-- So do two that leave its counter equal, where it has not gone round.
abbrev pub EqualCounters : Type 0
EqualCounters = (b : Boot) (cs cs' : List Call) (i : ℕ) → i < length b.pages → turns_made cs (booted b) i < 2 ^ 64 → turns_made cs' (booted b) i < 2 ^ 64 → SameAnswers b cs cs' i →
    (partition (history cs (booted b)).house i).counter ≡ (partition (history cs' (booted b)).house i).counter →
    lone_of (history cs (booted b)) i ≡ lone_of (history cs' (booted b)) i

-- Tickets: the tickets sent done to a partition in a history are those that it took and then those that wait, in this order.
abbrev pub Tickets : Type 0
Tickets = (b : Boot) (cs : List Call) (j : ℕ) → j < length b.pages →
    let log = log_of cs (booted b) in
    tickets_to j log ≡ tickets_off j log ++ queue_in (history cs (booted b)) j

-- So their number is that of those taken and those waiting.
abbrev pub TicketCounts : Type 0
TicketCounts = (b : Boot) (cs : List Call) (j : ℕ) → j < length b.pages →
    let log = log_of cs (booted b) in
    length (tickets_to j log) ≡ length (tickets_off j log) + waiting_of (queues_of (history cs (booted b)).house) j

-- A read-out that is done yields the words of those pages.
abbrev pub ReadsThosePages : Type 0
ReadsThosePages = (b : Boot) (w : World) → Grown b w → (i a n : ℕ) (out : List ℕ) →
    let r = read_call w i a n out in
    r.verdict.number ≡ 0 → r.output ≡ list_from (λ j. get_or (lone_of w i).1.words (a / 4 + j) 0) 0 n ++ drop n out

-- Fairness: of any house, over any calls in which a partition stays running and (n-1)q+1 host steps are made, it makes a step.
abbrev pub Fairness : Type 0
Fairness = (w : World) (cs : List Call) (i : ℕ) → i < w.house.count → StaysRunning cs w i →
    (w.house.count - 1) * w.house.q + 1 ≤ steps_made cs w → 0 < turns_made cs w i

-- Fair shares: of any house, over any calls in which no start or stop changes who runs and no turn ends early by a trap, any two partitions running make
-- step counts that differ by at most q. Runs, emptyings and read-outs may stand in it, done or refused, in any number and lengths. A refused start or stop
-- changes nothing, so it may stand in it too, as may a start of one that runs and a stop of one that is stopped.
abbrev pub FairShares : Type 0
FairShares = (w : World) (cs : List Call) → starts_and_stops cs w ≡ 0 → early_ends cs w ≡ 0 →
    (i j : ℕ) → i < w.house.count → j < w.house.count → runs w.house i ≡ true → runs w.house j ≡ true →
    (turns_made cs w i ≤ turns_made cs w j + w.house.q) × (turns_made cs w j ≤ turns_made cs w i + w.house.q)
