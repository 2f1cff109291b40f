-- Closed houses: one with a stale entry, on which the two engines differ; a grown one, on which they come to the same; and a history of three partitions with
-- runs by either engine.
use mathlib.Core.Path.{◌≡◌, refl, sym, ap, subst, ◌∙◌}
use mathlib.Core.Bool.{true}
use mathlib.Core.List.{List, [], ◌∷◌, ◌++◌}
use Prim.Native.Nat.{ℕ, suc, ◌%◌, ◌^◌, ◌<◌, ◌≤◌}
use native.Mathlib.Omega.{arith}
use borrow.Author.Tests.{eq-eqb}
use lib.Count.{count_trailing_zeros}
use lib.ListN.{length, get_or, replicate}
use Rattle.dlx.specs.Words.{extended_by, read_in, holds}
use Rattle.dlx.specs.Instructions.{register_type, part_type, instruction_of}
use Rattle.dlx.specs.Fields.{field, put, width, brought, placed}
use Rattle.dlx.specs.Processor.{special_of, with_special, with_count}
use Rattle.dlx.specs.Interrupts.{level_of, interrupted}
use Rattle.dlx.specs.Timer.{ticked, raised}
use Rattle.dlx.specs.Execute.{written, value_of, overflows_of, operated, reached, loads, stores, moved_to, trap_of, effect_of}
use Rattle.dlx.specs.Machine.{executed, fetched, loaded, stored, accessed, received, after_read, after_write, left as left_by, handled, changed as changed_by, settled, retabled, step, steps, asked, request_of as effect_request, reply}
use Rattle.dlx.specs.Parts.{inner, outer}
use Rattle.addresses.specs.Entries.{entry_of, judged}
use Rattle.addresses.specs.Walk.{walked, direct}
use Rattle.addresses.specs.Memory.{lone_memory, lone_found, lone_read, hosted, given, filled, looked, served, host_read, emptied, host_written, host_reads, host_writes}
use Rattle.tickets.specs.Queues.{sending, taking, desk, queue_of, oldest, ruled}
use Rattle.house.specs.Lists.{list_from, any, first_from}
use Rattle.house.specs.House.{fresh_shadows, with_shadows, partition, shadow_of}
use Rattle.house.specs.Boot.{Verdict, verdict, sum, first_of, boot_verdict, laid, offset, booted_house}
use Rattle.house.specs.Turns.{World, world, next_from, turn_of, request_now, reply_now, queues_next, guest_step, settled_house, step_with, host_step, host_steps}
use Rattle.house.specs.Calls.{run_verdict, run_call, stopped}
use Rattle.demands.specs.Histories.{Boot, booted, Call, run, stop, empty, history, Grown, steps_of, lone_of, lone_at_boot, lone_asks, lone_answer, event_of, each, answers_to}
use Rattle.demands.proofs.Histories.Grown.{standing}
use Rattle.demands.proofs.Instances.ClosedCalls.{below, below_at, Fit, run_verdict_lem, after_run, after_stop}
use Rattle.demands.proofs.Instances.TwoGuests.{two_guests, memory_words, full, grown_full, misled, misled_stays, misled_size}
use Rattle.staleness.specs.Audit.{audit_call, finding}
use Rattle.staleness.proofs.Promises.{grown_pass}
use Rattle.staleness.proofs.Instances.{full_passes, misled_found}
use Rattle.unshadowed.specs.Memory.{sought, sought_read, sought_written}
use Rattle.unshadowed.specs.Turns.{bare_request, bare_reply, bare_queues, bare_step, unshadowed_step, unshadowed_steps, all_empty}
use Rattle.unshadowed_run.specs.Calls.{unshadowed_call}
use Rattle.engines.specs.Promises.{EitherCall, call, unshadowed_run, after_either, either_history, either_steps_of, after_steps, either_turns_in, either_log_in, either_turns_made, either_log_of, either_feed_of, as_calls}
use Rattle.engines.proofs.Histories.{instead_done, run_then_empty, grown_after, grown_fit, either_grown, either_histories}
use Rattle.engines.proofs.Promises.{same_verdicts, refused_untouched, done_empty, same_runs}

-- all that a step computes with, by either engine
computing : ℕ
unfolding fresh_shadows two_guests inner outer list_from any laid offset booted_house next_from turn_of request_now reply_now queues_next desk sending taking asked effect_request guest_step settled_house step_with host_step host_steps stopped judged walked direct hosted given filled looked served host_read emptied host_written host_reads host_writes step fetched executed loaded stored accessed received after_read after_write left_by handled changed_by settled retabled instruction_of register_type effect_of written value_of overflows_of operated reached loads stores moved_to trap_of special_of with_special with_count ticked raised interrupted level_of count_trailing_zeros extended_by read_in holds part_type field put width brought placed sought sought_read sought_written bare_request bare_reply bare_queues bare_step unshadowed_step unshadowed_steps
computing = 0

some : {n : ℕ} (k : ℕ) → n ≡ suc k → n ≡ 0 → ⊥
some k e z = omega arith

-- ---- what a run by the second engine comes to, in a house that is not damaged

module _ {n : ℕ} (w : World) (f : Fit n w) where
  after_bare : (k : ℕ) → k ≤ 1000000 → (w.house.left ≡ 0 → ⊥) → (after_either (unshadowed_run k) w ≡ all_empty (unshadowed_steps k w)) × (either_steps_of (unshadowed_run k) w ≡ k)
  unfolding after_either either_steps_of unshadowed_call
  after_bare k l z = let v = run_verdict_lem w f k l z in (rw v, rw v)

  -- one step too many
  too_long : run_verdict w 1000001 ≡ verdict 14 0
  unfolding run_verdict first_of
  too_long = simp (f.whole, eq-eqb (length w.memory) w.house.words f.size)

  after_too_long : (after_either (unshadowed_run 1000001) w ≡ w) × (either_steps_of (unshadowed_run 1000001) w ≡ 0)
  unfolding after_either either_steps_of unshadowed_call
  after_too_long = (rw too_long, rw too_long)

-- ---- entry 0 of partition 0's shadow leads to frame 1, and its table to frame 4: the one reads a word of the table as its instruction, the other stores to it

abbrev wrong : World
wrong = world misled full.memory

-- its one stale entry is the first of all, and both runs are done
pub found : audit_call wrong ≡ finding 0 true 0 0
found = misled_found

fit : Fit 2 wrong
fit = record { typed = misled_stays.typed; whole = misled_stays.whole; size = misled_size; count = unfold computing in refl }

busy : wrong.house.left ≡ 3
busy = unfold computing in refl

both_done : run_verdict wrong 1 ≡ verdict 0 1
both_done = run_verdict_lem wrong fit 1 (omega arith) (some 2 busy)

pub shadowed_reads : get_or (run_call wrong 1).world.memory 1025 0 ≡ 0x1800
unfolding run_call
shadowed_reads = rw both_done (unfold computing in refl)

pub unshadowed_stores : get_or (unshadowed_call wrong 1).world.memory 1025 0 ≡ 0x800
unfolding unshadowed_call
unshadowed_stores = rw both_done (unfold computing in refl)

pub differ : (run_call wrong 1).world.memory ≡ (unshadowed_call wrong 1).world.memory → ⊥
differ e = omega (arith, shadowed_reads, unshadowed_stores, ap (λ (m : List ℕ). get_or m 1025 0) e)

-- they refuse alike all the same: what is refused stays wrong
number : {v : Verdict} (n d : ℕ) → v ≡ verdict n d → v.number ≡ n
number n d e = ap (λ (v : Verdict). v.number) e

pub wrong_verdict : (unshadowed_call wrong 1000001).verdict ≡ verdict 14 0
unfolding run_call
wrong_verdict = same_verdicts wrong 1000001 ∙ too_long wrong fit

pub wrong_refused : (unshadowed_call wrong 1000001).world ≡ wrong
unfolding unshadowed_call
wrong_refused = refused_untouched wrong 1000001 (some 13 (number 14 0 (too_long wrong fit)))

-- a run of 0 steps by the first keeps the entry, and by the second every shadow is empty
pub wrong_kept : get_or (run_call wrong 0).world.house.shadows 0 0 ≡ entry_of 1 0
unfolding run_call
wrong_kept = rw (run_verdict_lem wrong fit 0 (omega arith) (some 2 busy)) (unfold computing in refl)

pub wrong_emptied : (unshadowed_call wrong 0).world.house.shadows ≡ fresh_shadows
unfolding unshadowed_call
wrong_emptied = done_empty wrong 0 (number 0 0 (run_verdict_lem wrong fit 0 (omega arith) (some 2 busy)))

-- ---- a grown house: the runs come to the same, but that the second's shadows are all empty

pub full_same : (unshadowed_call full 1).world ≡ world (with_shadows (run_call full 1).world.house fresh_shadows) (run_call full 1).world.memory
unfolding unshadowed_call
full_same =
    let d = number 0 1 (run_verdict_lem full (grown_fit two_guests memory_words full grown_full) 1 (omega arith) (some 2 (unfold computing in refl))) in
    same_runs full (standing two_guests full grown_full).shaped full_passes 1
    ∙ ap (λ (l : List ℕ). world (with_shadows (run_call full 1).world.house l) (run_call full 1).world.memory) (done_empty full 1 d)

-- the first engine's are not
pub full_kept : get_or (host_steps 1 full).house.shadows 0 0 ≡ entry_of 4 0
full_kept = unfold computing in refl

-- ---- three partitions. 0: PTO = 1, PTL = 2, user mode; a load through entry 1, a store into entry 1 of the table, a trap. 1 sends 7 to 2, which takes

abbrev walker : List ℕ
walker = 0x20010001 ∷ 0x002001D1 ∷ 0x20020002 ∷ 0x00400211 ∷ 0x00200191 ∷ 0x8C031000 ∷ 0xAC031004 ∷ 0xF8000007 ∷ []

abbrev its_table : List ℕ
its_table = 0x00000800 ∷ 0x00001800 ∷ []

abbrev sender : List ℕ
sender = 0x20010007 ∷ 0x20020002 ∷ 0xF8000100 ∷ []

abbrev taker : List ℕ
taker = 0xF8000101 ∷ 0xF8000101 ∷ 0xF8000101 ∷ 0x20050009 ∷ []

-- in frames 4 and 1, 3, and 2
abbrev memory : List ℕ
memory =
    replicate 1024 0
    ++ (its_table ++ (replicate 1022 0 ++ (taker ++ (replicate 1020 0 ++ (sender ++ (replicate 1021 0 ++ (walker ++ replicate 1016 0)))))))

unfoldable pub three : Boot
unfolding boot_verdict first_of any first_from sum
three = record { pages = 2 ∷ 1 ∷ 1 ∷ []; q = 3; frames = 4 ∷ 1 ∷ 3 ∷ 2 ∷ []; memory = memory; done = refl }

pub three_words : (i : ℕ) → get_or three.memory i 0 < 2 ^ 32
unfolding three below
three_words = below_at memory refl

-- 0 three times and 1 once, by the first engine; 1 twice and 2 three times by the second; a run too long, and one of 0 steps; 1 is stopped; 0 three times and 2
-- twice by the first, which fills entries 0 and 1 of 0's shadow; 2 once and 0 twice by the second, a store to entry 1 and a trap
abbrev mixed : List EitherCall
mixed =
    call (run 4) ∷ unshadowed_run 5 ∷ unshadowed_run 1000001 ∷ unshadowed_run 0 ∷ call (stop 1) ∷ call (run 5) ∷ unshadowed_run 3 ∷ []

abbrev pub begun : World
begun = booted three

abbrev pub first : World
first = host_steps 4 begun

abbrev pub second : World
second = all_empty (unshadowed_steps 5 first)

abbrev pub without : World
without = world (stopped second.house 1) second.memory

abbrev pub third : World
third = host_steps 5 without

abbrev pub ended : World
ended = all_empty (unshadowed_steps 3 third)

reckoning : ℕ
unfolding three computing
reckoning = 0

-- each is grown, so not damaged
grown_on : (e : EitherCall) (w v : World) → Grown three w → after_either e w ≡ v → Grown three v
grown_on e w v g q = subst (Grown three) q (grown_after three three_words e w g)

pub fit_of : (w : World) → Grown three w → Fit 3 w
unfolding three
fit_of w g = grown_fit three three_words w g

grown_begun : Grown three begun
unfolding history
grown_begun = ([], refl)

to_first : (after_either (call (run 4)) begun ≡ first) × (either_steps_of (call (run 4)) begun ≡ 4)
unfolding after_either either_steps_of
to_first = after_run begun (fit_of begun grown_begun) 4 (omega arith) (some 2 (unfold reckoning in refl))

grown_first : Grown three first
grown_first = grown_on (call (run 4)) begun first grown_begun to_first.0

to_second : (after_either (unshadowed_run 5) first ≡ second) × (either_steps_of (unshadowed_run 5) first ≡ 5)
to_second = after_bare first (fit_of first grown_first) 5 (omega arith) (some 1 (unfold reckoning in refl))

grown_second : Grown three second
grown_second = grown_on (unshadowed_run 5) first second grown_first to_second.0

-- a run by the first engine, and then an emptying of each of the three
pub second_as_calls : second ≡ history (run 5 ∷ empty 0 ∷ empty 1 ∷ empty 2 ∷ []) first
unfolding after_either
second_as_calls =
    let f = fit_of first grown_first in
    let e = number 0 5 (run_verdict_lem first f 5 (omega arith) (some 1 (unfold reckoning in refl))) in
    sym to_second.0
    ∙ run_then_empty first f.typed (grown_pass three three_words first grown_first).0 5
    ∙ ap (λ (cs : List Call). history cs first) (instead_done first 5 e ∙ (unfold reckoning in refl))

to_same : (after_either (unshadowed_run 1000001) second ≡ second) × (either_steps_of (unshadowed_run 1000001) second ≡ 0)
to_same = after_too_long second (fit_of second grown_second)

to_still : (after_either (unshadowed_run 0) second ≡ second) × (either_steps_of (unshadowed_run 0) second ≡ 0)
unfolding unshadowed_steps
to_still = after_bare second (fit_of second grown_second) 0 (omega arith) (some 2 (unfold reckoning in refl))

to_without : (after_either (call (stop 1)) second ≡ without) × (either_steps_of (call (stop 1)) second ≡ 0)
unfolding after_either either_steps_of steps_of
to_without = (after_stop second (fit_of second grown_second) 1 (omega arith), refl)

grown_without : Grown three without
grown_without = grown_on (call (stop 1)) second without grown_second to_without.0

to_third : (after_either (call (run 5)) without ≡ third) × (either_steps_of (call (run 5)) without ≡ 5)
unfolding after_either either_steps_of
to_third = after_run without (fit_of without grown_without) 5 (omega arith) (some 2 (unfold reckoning in refl))

pub grown_third : Grown three third
grown_third = grown_on (call (run 5)) without third grown_without to_third.0

pub third_left : third.house.left ≡ 1
third_left = unfold reckoning in refl

to_ended : (after_either (unshadowed_run 3) third ≡ ended) × (either_steps_of (unshadowed_run 3) third ≡ 3)
to_ended = after_bare third (fit_of third grown_third) 3 (omega arith) (some 0 third_left)

pub mixed_ends : either_history mixed begun ≡ ended
unfolding either_history
mixed_ends = simp (to_first.0, to_second.0, to_same.0, to_still.0, to_without.0, to_third.0, to_ended.0)

-- the first engine filled the entry that the second's store made another
pub filled_then_changed : (get_or (shadow_of third.house 0) 1 0 ≡ entry_of 1 0) × (get_or ended.memory 1025 0 ≡ 0x800)
filled_then_changed = unfold reckoning in (refl, refl)

-- steps of each partition
counting : ℕ
unfolding reckoning either_turns_in after_steps
counting = 0

pub eight : either_turns_made mixed begun 0 ≡ 8
unfolding either_turns_made
eight = simp (to_first.0, to_second.0, to_same.0, to_still.0, to_without.0, to_third.0, to_first.1, to_second.1, to_same.1, to_still.1, to_without.1, to_third.1, to_ended.1) (unfold counting in refl)

pub three_of_1 : either_turns_made mixed begun 1 ≡ 3
unfolding either_turns_made
three_of_1 = simp (to_first.0, to_second.0, to_same.0, to_still.0, to_without.0, to_third.0, to_first.1, to_second.1, to_same.1, to_still.1, to_without.1, to_third.1, to_ended.1) (unfold counting in refl)

pub six : either_turns_made mixed begun 2 ≡ 6
unfolding either_turns_made
six = simp (to_first.0, to_second.0, to_same.0, to_still.0, to_without.0, to_third.0, to_first.1, to_second.1, to_same.1, to_still.1, to_without.1, to_third.1, to_ended.1) (unfold counting in refl)

-- each of the three stands where its lone machine does
pub mixed_lone : (i : ℕ) → i < 3 →
    lone_of (either_history mixed begun) i
    ≡ steps (lone_memory (get_or three.pages i 0)) (either_feed_of mixed begun i) (either_turns_made mixed begun i) (lone_at_boot three i)
unfolding three
mixed_lone i l = (either_histories three three_words mixed i l).0

counter : (i n : ℕ) → i < 3 → either_turns_made mixed begun i ≡ n → (partition ended.house i).counter ≡ n % 2 ^ 64
unfolding three
counter i n l e =
    ap (λ (w : World). (partition w.house i).counter) (sym mixed_ends) ∙ (either_histories three three_words mixed i l).1 ∙ ap (λ (m : ℕ). m % 2 ^ 64) e

pub mixed_counters : ((partition ended.house 0).counter ≡ 8) × ((partition ended.house 1).counter ≡ 3) × ((partition ended.house 2).counter ≡ 6)
mixed_counters = (counter 0 8 (omega arith) eight, counter 1 3 (omega arith) three_of_1, counter 2 6 (omega arith) six)

-- the feed of 2: the ticket that 1 sent in a run by the second engine, then none waiting; a step that asks nothing, one that is ill, and its handler, at 0,
-- which takes again, in a run by the second
logging : ℕ
unfolding reckoning either_log_in after_steps event_of lone_answer lone_asks lone_of lone_read lone_found ruled oldest queue_of each
logging = 0

pub mixed_feed : answers_to 2 (either_log_of mixed begun) ≡ reply 0 7 ∷ reply 3 0 ∷ reply 3 0 ∷ reply 0 0 ∷ reply 0 0 ∷ reply 3 0 ∷ []
unfolding either_log_of
mixed_feed = simp (to_first.0, to_second.0, to_same.0, to_still.0, to_without.0, to_third.0, to_first.1, to_second.1, to_same.1, to_still.1, to_without.1, to_third.1, to_ended.1) (unfold logging in refl)

-- the same as calls: an emptying of each of the three behind a done run by the second engine
pub mixed_calls : either_history mixed begun ≡ history (as_calls mixed begun) begun
mixed_calls = (either_grown three three_words mixed).left
