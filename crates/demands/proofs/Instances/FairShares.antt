-- Three guests with turns of 2 steps: a stretch in which fair shares reach their bound exactly, and one in which a turn ends early by a trap and the bound does not hold.
use mathlib.Core.Path.{◌≡◌, refl, ap, ◌∙◌}
use mathlib.Core.Bool.{true}
use mathlib.Core.List.{List, [], ◌∷◌, ◌++◌}
use Prim.Native.Nat.{ℕ, suc, ◌+◌, ◌^◌, ◌<◌, ◌≤◌}
use native.Mathlib.Omega.{arith}
use lib.Count.{count_trailing_zeros}
use lib.ListN.{get_or, replicate}
use Rattle.dlx.specs.Words.{extended_by, read_in, holds}
use Rattle.dlx.specs.Instructions.{register_type, part_type, instruction_of}
use Rattle.dlx.specs.Fields.{field, put, width, brought, placed}
use Rattle.dlx.specs.Processor.{special_of, with_special, with_count}
use Rattle.dlx.specs.Interrupts.{level_of, interrupted}
use Rattle.dlx.specs.Timer.{ticked, raised}
use Rattle.dlx.specs.Execute.{written, value_of, overflows_of, operated, reached, loads, stores, moved_to, trap_of, effect_of}
use Rattle.dlx.specs.Machine.{executed, fetched, loaded, stored, accessed, received, after_read, after_write, left as left_by, handled, changed as changed_by, settled, retabled, step, asked, request_of as effect_request}
use Rattle.dlx.specs.Parts.{inner, outer}
use Rattle.addresses.specs.Entries.{judged}
use Rattle.addresses.specs.Walk.{walked, direct}
use Rattle.addresses.specs.Memory.{hosted, given, filled, looked, served, host_read, emptied, host_written, host_reads, host_writes}
use Rattle.tickets.specs.Queues.{sending, taking, desk}
use Rattle.house.specs.Lists.{list_from, any, first_from}
use Rattle.house.specs.House.{fresh_shadows, runs, turn}
use Rattle.house.specs.Boot.{sum, first_of, boot_verdict, laid, offset, booted_house}
use Rattle.house.specs.Turns.{World, world, next_from, turn_of, request_now, reply_now, queues_next, guest_step, settled_house, step_with, host_step, host_steps}
use Rattle.house.specs.Calls.{start_call, stop_call, started, stopped, emptied_house, read_call}
use Rattle.house.specs.declared.House.{House}
use Rattle.demands.specs.Histories.{Boot, booted, Call, run, start, stop, empty, read_out, after, steps_of, turns_made, turns_in, ends_early, early_ends_in, early_ends, start_or_stop, starts_and_stops}
use Rattle.demands.proofs.Booted.FreshHouse.{booted_whole, booted_ready}
use Rattle.house.proofs.Calls.StartStopEmpty.{stopped_still}
use Rattle.house.proofs.Turns.SameLayout.{changed}
use Rattle.house.proofs.Damage.Changed.{same_flags, same_shadows, changed_stays}
use Rattle.house.proofs.Damage.Undamaged.{undamaged_gives}
use Rattle.demands.proofs.Instances.ClosedCalls.{below, below_at, Fit, fit_after, one_verdict_lem, no_verdict, after_run, after_start, after_stop, after_empty, after_refused}
use Rattle.demands.proofs.Demands.{fair_shares}

abbrev zeros : ℕ → List ℕ
zeros n = replicate n 0

-- partition 0: register 1 = 5, then word 0, which is ill
-- partition 1: takes a ticket, which ends no turn; register 1 = 5; a trap, the first step of its second turn
-- partition 2: register 1 = 5, then a trap, the last step of its turn
abbrev memory : List ℕ
memory = zeros 1024 ++ (0x20010005 ∷ zeros 1023 ++ (0xF8000101 ∷ 0x20010005 ∷ 0xF8000007 ∷ zeros 1021 ++ (0x20010005 ∷ 0xF8000007 ∷ zeros 1022)))

unfoldable pub turn_takers : Boot
unfolding boot_verdict first_of any first_from sum
turn_takers = record { pages = 1 ∷ 1 ∷ 1 ∷ []; q = 2; frames = 1 ∷ 2 ∷ 3 ∷ []; memory = memory; done = refl }

abbrev begun : World
begun = booted turn_takers

computing : ℕ
unfolding fresh_shadows turn_takers inner outer list_from any laid offset booted_house next_from turn_of request_now reply_now queues_next desk sending taking asked effect_request guest_step settled_house step_with host_step host_steps started stopped emptied_house judged walked direct hosted given filled looked served host_read emptied host_written host_reads host_writes step fetched executed loaded stored accessed received after_read after_write left_by handled changed_by settled retabled instruction_of register_type effect_of written value_of overflows_of operated reached loads stores moved_to trap_of special_of with_special with_count ticked raised interrupted level_of count_trailing_zeros extended_by read_in holds part_type field put width brought placed turns_in ends_early early_ends_in
computing = 0

some : {n : ℕ} (k : ℕ) → n ≡ suc k → n ≡ 0 → ⊥
some k e z = omega arith

words : (i : ℕ) → get_or turn_takers.memory i 0 < 2 ^ 32
unfolding turn_takers below
words = below_at memory refl

fit_begun : Fit 3 begun
unfolding booted_house turn_takers
fit_begun = record { typed = (booted_ready turn_takers words).typed; whole = booted_whole turn_takers; size = refl; count = refl }

-- ---- the bound is reached

abbrev five : World
five = host_steps 5 begun

abbrev same : World
same = world (started five.house 1) five.memory

abbrev cleared : World
cleared = world (emptied_house same.house 0) same.memory

-- 0 twice, 1 twice, 2 once; a start and a stop of a partition that is not there, refused; a read-out; a start of one that runs; an emptying; 2 once, 0 twice
abbrev calls : List Call
calls = run 5 ∷ start 3 ∷ stop 3 ∷ read_out 0 0 1 (0 ∷ []) ∷ start 1 ∷ empty 0 ∷ run 3 ∷ []

to_five : (after (run 5) begun ≡ five) × (steps_of (run 5) begun ≡ 5)
to_five = after_run begun fit_begun 5 (omega arith) (some 1 (unfold computing in refl))

fit_five : Fit 3 five
fit_five = fit_after begun fit_begun (run 5) to_five.0

refused : after (start 3) five ≡ five
refused = after_refused five fit_five 3 (omega arith)

refused_stop : after (stop 3) five ≡ five
unfolding after stop_call
refused_stop = rw (no_verdict five fit_five 3 (omega arith))

to_read : (w : World) (i a n : ℕ) (out : List ℕ) → after (read_out i a n out) w ≡ w
unfolding after read_call
to_read w i a n out = refl

to_same : after (start 1) five ≡ same
to_same = after_start five fit_five 1 (omega arith)

fit_same : Fit 3 same
fit_same = fit_after five fit_five (start 1) to_same

to_cleared : after (empty 0) same ≡ cleared
to_cleared = after_empty same fit_same 0 (omega arith)

fit_cleared : Fit 3 cleared
fit_cleared = fit_after same fit_same (empty 0) to_cleared

to_end : (after (run 3) cleared ≡ host_steps 3 cleared) × (steps_of (run 3) cleared ≡ 3)
to_end = after_run cleared fit_cleared 3 (omega arith) (some 0 (unfold computing in refl))

made : (i : ℕ) → turns_made calls begun i ≡ turns_in 5 begun i + turns_in 3 cleared i
unfolding turns_made
made i = simp (to_five.0, refused, refused_stop, to_read, to_same, to_cleared, to_five.1, to_end.1) (unfold steps_of turns_in in omega arith)

pub no_starts : starts_and_stops calls begun ≡ 0
unfolding starts_and_stops start_or_stop start_call stop_call
no_starts = simp (to_five.0, refused, refused_stop, to_read, no_verdict five fit_five 3 (omega arith), one_verdict_lem five fit_five 1 (omega arith)) (unfold computing in refl)

pub none_early : early_ends calls begun ≡ 0
unfolding early_ends
none_early = simp (to_five.0, refused, refused_stop, to_read, to_same, to_cleared, to_five.1, to_end.1) (unfold computing steps_of in refl)

-- partition 0 made 4 steps and partition 2 made 2, which are q apart
pub four : turns_made calls begun 0 ≡ 4
four = made 0 ∙ (unfold computing in refl)

pub two : turns_made calls begun 2 ≡ 2
two = made 2 ∙ (unfold computing in refl)

there : (i : ℕ) → i < 3 → i < begun.house.count
there i l = omega (arith, fit_begun.count)

two_each : begun.house.q ≡ 2
two_each = unfold computing in refl

-- the demand alone gives as much, by either of its parts: 0 made 4, so 2 made 2 or more
pub shared : (2 ≤ turns_made calls begun 2) × (2 ≤ turns_made calls begun 2)
shared =
    let runs_0 : runs begun.house 0 ≡ true = unfold computing in refl in
    let runs_2 : runs begun.house 2 ≡ true = unfold computing in refl in
    let ways = fair_shares begun calls no_starts none_early in (
      omega (arith, (ways 0 2 (there 0 (omega arith)) (there 2 (omega arith)) runs_0 runs_2).0, four, two_each),
      omega (arith, (ways 2 0 (there 2 (omega arith)) (there 0 (omega arith)) runs_2 runs_0).1, four, two_each),
    )

-- ---- of a house that no boot leads to: no step is made, 1 is stopped, and the first turn has one left

abbrev paired : World
paired = world (stopped begun.house 1) begun.memory

fit_paired : Fit 3 paired
fit_paired = fit_after begun fit_begun (stop 1) (after_stop begun fit_begun 1 (omega arith))

abbrev midway : World
midway = world (changed paired.house paired.house.running (turn 0 1) paired.house.shadows) paired.memory

fit_midway : Fit 3 midway
fit_midway =
    let h = paired.house in
    let u = undamaged_gives h fit_paired.whole in
    let s = changed_stays h paired.memory u fit_paired.typed h.running (turn 0 1) h.shadows
    (same_flags h paired.memory u fit_paired.typed)
    (record { idle = λ e. absurd (omega arith); busy = λ _. (omega (arith, fit_paired.count), unfold computing in refl, omega (arith, two_each)) })
    (same_shadows h paired.memory u fit_paired.typed) in
    record { typed = s.typed; whole = s.whole; size = s.size ∙ fit_paired.size; count = fit_paired.count }

-- a stop of one that is stopped; 0 once, 2 twice, 0 twice
abbrev calls_midway : List Call
calls_midway = stop 1 ∷ run 5 ∷ []

to_midway : after (stop 1) midway ≡ midway
to_midway = after_stop midway fit_midway 1 (omega arith) ∙ ap (λ (h : House). world h midway.memory) (stopped_still midway.house 1 (record { whole = fit_midway.whole; there = omega (arith, fit_midway.count) }) (unfold computing in refl))

to_midday : steps_of (run 5) midway ≡ 5
to_midday = (after_run midway fit_midway 5 (omega arith) (some 0 refl)).1

none_midway : (starts_and_stops calls_midway midway ≡ 0) × (early_ends calls_midway midway ≡ 0)
unfolding early_ends starts_and_stops start_or_stop stop_call
none_midway = (simp (to_midway, one_verdict_lem midway fit_midway 1 (omega arith)) (unfold computing in refl), simp (to_midway, to_midday) (unfold computing steps_of in refl))

three : turns_made calls_midway midway 0 ≡ 3
unfolding turns_made
three = simp (to_midway, to_midday) (unfold computing steps_of in refl)

-- 0 made 3, so 2 made 1 or more
pub shared_midway : 1 ≤ turns_made calls_midway midway 2
shared_midway =
    let runs_0 : runs midway.house 0 ≡ true = unfold computing in refl in
    let runs_2 : runs midway.house 2 ≡ true = unfold computing in refl in
    let q : midway.house.q ≡ 2 = unfold computing in refl in
    let within : (i : ℕ) → i < 3 → i < midway.house.count = λ i l. omega (arith, fit_midway.count) in
    omega (arith, (fair_shares midway calls_midway none_midway.0 none_midway.1 0 2 (within 0 (omega arith)) (within 2 (omega arith)) runs_0 runs_2).0, three, q)

-- ---- why no turn may end early

-- from the second round: 0 twice; 1 once, its trap; 2 twice; 0 twice
abbrev second : World
second = host_steps 6 begun

to_second : (after (run 6) begun ≡ second) × (steps_of (run 6) begun ≡ 6)
to_second = after_run begun fit_begun 6 (omega arith) (some 1 (unfold computing in refl))

fit_second : Fit 3 second
fit_second = fit_after begun fit_begun (run 6) to_second.0

to_trap : (after (run 7) second ≡ host_steps 7 second) × (steps_of (run 7) second ≡ 7)
to_trap = after_run second fit_second 7 (omega arith) (some 1 (unfold computing in refl))

pub one_early : (starts_and_stops (run 7 ∷ []) second ≡ 0) × (early_ends (run 7 ∷ []) second ≡ 1)
unfolding early_ends starts_and_stops start_or_stop
one_early = (refl, simp to_trap.1 (unfold computing in refl))

-- 4 steps of partition 0 and 1 of partition 1, which are more than q apart
pub made_apart : (turns_made (run 7 ∷ []) second 0 ≡ 4) × (turns_made (run 7 ∷ []) second 1 ≡ 1)
unfolding turns_made
made_apart = (simp to_trap.1 (unfold computing in refl), simp to_trap.1 (unfold computing in refl))

pub apart : turns_made (run 7 ∷ []) second 0 ≤ turns_made (run 7 ∷ []) second 1 + turn_takers.q → ⊥
unfolding turn_takers
apart l = omega (arith, made_apart.0, made_apart.1)
