-- Tickets are sent, refused and taken in a history from a boot, and the demand on them says so: nothing is proved of nothing.
use mathlib.Core.Path.{◌≡◌, refl, sym, ap, subst, ◌∙◌}
use mathlib.Core.List.{List, [], ◌∷◌, ◌++◌}
use Prim.Native.Nat.{ℕ, zero, suc, ◌+◌, ◌%◌, ◌^◌, ◌<◌}
use native.Mathlib.Omega.{arith}
use borrow.Author.Tests.{eq-eqb, ne_eqb}
use lib.Count.{count_trailing_zeros}
use lib.Dec.{eqb}
use lib.ListN.{length, replicate}
use Rattle.dlx.specs.Choice.{when◌then◌else◌}
use Rattle.dlx.specs.Words.{extended_by, read_in, holds}
use Rattle.dlx.specs.Instructions.{register_type, part_type, instruction_of}
use Rattle.dlx.specs.Fields.{field, put, width, brought, placed}
use Rattle.dlx.specs.Processor.{special_of, with_special, with_count}
use Rattle.dlx.specs.Interrupts.{level_of, interrupted}
use Rattle.dlx.specs.Timer.{ticked, raised}
use Rattle.dlx.specs.Execute.{written, value_of, overflows_of, operated, reached, loads, stores, moved_to, trap_of, effect_of}
use Rattle.dlx.specs.Machine.{executed, fetched, loaded, stored, accessed, received, after_read, after_write, left as left_by, handled, changed as changed_by, settled, retabled, step, asked, request_of as effect_request, reply}
use Rattle.addresses.specs.Entries.{judged}
use Rattle.addresses.specs.Walk.{walked, direct}
use Rattle.addresses.specs.Memory.{lone_found, lone_read, hosted, given, filled, looked, served, host_read, emptied, host_written, host_reads, host_writes}
use Rattle.dlx.specs.Parts.{inner, outer}
use Rattle.house.specs.Lists.{list_from, any, first_from}
use Rattle.tickets.specs.Queues.{waiting_of, sending, taking, desk, queue_of, oldest, ruled, lined, sent_to, taken_by}
use Rattle.house.specs.House.{fresh_shadows, partition, queues_of}
use Rattle.house.specs.Boot.{sum, first_of, boot_verdict, laid, offset, booted_house}
use Rattle.house.specs.Turns.{World, next_from, turn_of, request_now, reply_now, queues_next, guest_step, settled_house, step_with, host_step, host_steps}
use Rattle.house.specs.Calls.{run_verdict, run_call}
use Rattle.demands.specs.Histories.{Boot, booted, Call, run, history, Grown, steps_of, lone_of, lone_asks, lone_answer, event_of, log_in, log_of, each, answers_to, tickets_to, tickets_off, queue_in}
use Rattle.demands.specs.Demands.{StepOf}
use Rattle.demands.proofs.Booted.FreshHouse.{booted_whole}
use Rattle.demands.proofs.Demands.{step_demand, within_runs, tickets_demand, ticket_counts}

-- partition 0: register 1 = 7, register 2 = 2, three sends to partition 2, each of one more
abbrev sender : List ℕ
sender = 0x20010007 ∷ 0x20020002 ∷ 0xF8000100 ∷ 0x20210001 ∷ 0xF8000100 ∷ 0x20210001 ∷ 0xF8000100 ∷ []

-- partition 1: a trap; partition 2: takes twice, and a trap
abbrev taker : List ℕ
taker = 0xF8000101 ∷ 0xF8000101 ∷ 0xF8000007 ∷ []

abbrev memory : List ℕ
memory = replicate 1024 0 ++ (sender ++ (replicate 1017 0 ++ (0xF8000007 ∷ replicate 1023 0 ++ (taker ++ replicate 1021 0))))

pub ticket_guests : Boot
unfolding boot_verdict first_of any first_from sum
ticket_guests = record { pages = 1 ∷ 1 ∷ 1 ∷ []; q = 4; frames = 1 ∷ 2 ∷ 3 ∷ []; memory = memory; done = refl }

abbrev begun : World
begun = booted ticket_guests

-- 0 four times (7 sent), 1 once (its trap), 2 three times (7 taken, none waiting, its trap), 0 three times (8 and 9 sent)
abbrev calls : List Call
calls = run 11 ∷ []

computing : ℕ
unfolding fresh_shadows ticket_guests inner outer list_from any laid offset booted_house next_from turn_of request_now reply_now queues_next desk sending taking asked effect_request guest_step settled_house step_with host_step host_steps judged walked direct hosted given filled looked served host_read emptied host_written host_reads host_writes step fetched executed loaded stored accessed received after_read after_write left_by handled changed_by settled retabled instruction_of register_type effect_of written value_of overflows_of operated reached loads stores moved_to trap_of special_of with_special with_count ticked raised interrupted level_of count_trailing_zeros extended_by read_in holds part_type field put width brought placed
computing = 0

logging : ℕ
unfolding computing log_in event_of lone_answer lone_asks lone_of lone_read lone_found ruled oldest lined queue_of each sent_to taken_by
logging = 0

begun_left : begun.house.left ≡ 4
begun_left = unfold computing in refl

begun_size : length begun.memory ≡ begun.house.words
unfolding booted_house
begun_size = refl

done : (run_verdict begun 11).number ≡ 0
unfolding run_verdict first_of
done = simp (booted_whole ticket_guests, eq-eqb (length begun.memory) begun.house.words begun_size, ne_eqb begun.house.left 0 (λ z. omega (arith, begun_left)))

steps_made : steps_of (run 11) begun ≡ 11
unfolding steps_of run_call
steps_made = rw (eq-eqb (run_verdict begun 11).number 0 done)

pub sent : tickets_to 2 (log_of calls begun) ≡ 7 ∷ 8 ∷ 9 ∷ []
unfolding log_of
sent = simp steps_made (unfold logging in refl)

pub took : tickets_off 2 (log_of calls begun) ≡ 7 ∷ []
unfolding log_of
took = simp steps_made (unfold logging in refl)

pub answered : answers_to 2 (log_of calls begun) ≡ reply 0 7 ∷ reply 3 0 ∷ reply 0 0 ∷ []
unfolding log_of
answered = simp steps_made (unfold logging in refl)

third : 2 < length ticket_guests.pages
third = unfold ticket_guests in omega arith

-- so two wait: by the demand, and by computing
pub waits : 7 ∷ 8 ∷ 9 ∷ [] ≡ (7 ∷ []) ++ queue_in (history calls begun) 2
waits = sym sent ∙ tickets_demand ticket_guests calls 2 third ∙ ap (λ l. l ++ queue_in (history calls begun) 2) took

-- three sent are one taken and two waiting
pub counts : 3 ≡ 1 + waiting_of (queues_of (history calls begun).house) 2
counts = sym (ap length sent) ∙ ticket_counts ticket_guests calls 2 third ∙ ap (λ (l : List ℕ). length l + waiting_of (queues_of (history calls begun).house) 2) took

pub waits_there : queue_in (host_steps 11 begun) 2 ≡ 8 ∷ 9 ∷ []
waits_there = unfold logging in refl

-- ---- the sixth step takes 7, and the eleventh sends 9 behind 8

abbrev pub taking_step : World
taking_step = host_steps 5 begun

abbrev pub sending_step : World
sending_step = host_steps 10 begun

grown_begun : Grown ticket_guests begun
unfolding history
grown_begun = ([], refl)

at_step : (j : ℕ) → j < 11 → StepOf (host_steps j begun) (host_step (host_steps j begun)) (host_steps j begun).house.current
at_step j l =
    let g = within_runs ticket_guests begun grown_begun 11 j (unfold run_call in done) l in
    step_demand ticket_guests (host_steps j begun) g.0 g.1

-- who is current: 2, and 0
whose : (taking_step.house.current ≡ 2) × (sending_step.house.current ≡ 0)
whose = unfold computing in (refl, refl)

three : (j : ℕ) → (host_steps j begun).house.count ≡ 3
unfolding host_steps host_step step_with settled_house booted_house ticket_guests
three zero = refl
three (suc j) = three j

-- by the demand: the taker's queue is empty then, and the sender's ticket stands behind the other one; no other queue changes
abbrev rule : ℕ → ℕ → ℕ → List ℕ
rule n i j = let w = host_steps n begun in lined i (lone_asks w i) (lone_answer w i) (queue_in w j) j

by_rule : (n : ℕ) → n < 11 → (i : ℕ) → (host_steps n begun).house.current ≡ i → (j : ℕ) → j < 3 → queue_in (host_step (host_steps n begun)) j ≡ rule n i j
by_rule n l i e j m = subst (λ (x : ℕ). queue_in (host_step (host_steps n begun)) j ≡ rule n x j) e ((at_step n l).queues j (omega (arith, three n)))

ruled_so : (rule 5 2 2 ≡ []) × (rule 10 0 2 ≡ 8 ∷ 9 ∷ []) × (rule 10 0 1 ≡ []) × (rule 10 0 0 ≡ [])
ruled_so = unfold logging in (refl, refl, refl, refl)

pub queue_taken : queue_in (host_step taking_step) 2 ≡ []
queue_taken = by_rule 5 (omega arith) 2 whose.0 2 (omega arith) ∙ ruled_so.0

pub queue_sent : (queue_in (host_step sending_step) 2 ≡ 8 ∷ 9 ∷ []) × (queue_in (host_step sending_step) 1 ≡ []) × (queue_in (host_step sending_step) 0 ≡ [])
queue_sent =
    let by : (j : ℕ) → j < 3 → queue_in (host_step sending_step) j ≡ rule 10 0 j = by_rule 10 (omega arith) 0 whose.1 in
    (by 2 (omega arith) ∙ ruled_so.1, by 1 (omega arith) ∙ ruled_so.2, by 0 (omega arith) ∙ ruled_so.3)

-- the sender changes nothing else of the receiver, and the taker nothing of the other two
pub others_stay : (lone_of (host_step sending_step) 2 ≡ lone_of sending_step 2) × (lone_of (host_step taking_step) 0 ≡ lone_of taking_step 0) × (lone_of (host_step taking_step) 1 ≡ lone_of taking_step 1)
others_stay = (
  (at_step 10 (omega arith)).others 2 (omega (arith, three 10)) (λ e. omega (arith, whose.1)),
  (at_step 5 (omega arith)).others 0 (omega (arith, three 5)) (λ e. omega (arith, whose.0)),
  (at_step 5 (omega arith)).others 1 (omega (arith, three 5)) (λ e. omega (arith, whose.0)),
)

-- the taker's counter moves, and the receiver's does not
abbrev counter : World → ℕ → ℕ
counter w j = (partition w.house j).counter

pub counters_move : (counter (host_step taking_step) 2 ≡ 1) × (counter (host_step sending_step) 2 ≡ 3)
counters_move =
    let taker : (when eqb 2 taking_step.house.current then (counter taking_step 2 + 1) % 2 ^ 64 else counter taking_step 2) ≡ 1 = unfold computing in refl in
    let receiver : (when eqb 2 sending_step.house.current then (counter sending_step 2 + 1) % 2 ^ 64 else counter sending_step 2) ≡ 3 = unfold computing in refl in
    ((at_step 5 (omega arith)).counters 2 (omega (arith, three 5)) ∙ taker, (at_step 10 (omega arith)).counters 2 (omega (arith, three 10)) ∙ receiver)
