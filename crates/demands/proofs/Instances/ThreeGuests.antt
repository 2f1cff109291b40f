-- Three guests, from the boot's own call: the last of them makes a step within (n-1)q+1 host steps, while another is stopped, started, and traps.
use mathlib.Core.Path.{◌≡◌, refl}
use mathlib.Core.List.{List, [], ◌∷◌, ◌++◌}
use Prim.Native.Nat.{ℕ, suc, ◌+◌, ◌-◌, ◌*◌, ◌^◌, ◌<◌}
use native.Mathlib.Omega.{arith}
use lib.Count.{count_trailing_zeros}
use lib.ListN.{get_or, replicate}
use Rattle.dlx.specs.Words.{extended_by, read_in, holds}
use Rattle.dlx.specs.Instructions.{register_type, part_type, instruction_of}
use Rattle.dlx.specs.Fields.{field, put, width, brought, placed}
use Rattle.dlx.specs.Processor.{special_of, with_special, with_count}
use Rattle.dlx.specs.Interrupts.{level_of, interrupted}
use Rattle.dlx.specs.Timer.{ticked, raised}
use Rattle.dlx.specs.Execute.{written, value_of, overflows_of, operated, reached, loads, stores, moved_to, trap_of, effect_of}
use Rattle.dlx.specs.Machine.{executed, fetched, loaded, stored, accessed, received, after_read, after_write, left as left_by, handled, changed as changed_by, settled, retabled, step, asked, request_of as effect_request}
use Rattle.dlx.specs.Parts.{inner, outer}
use Rattle.addresses.specs.Entries.{judged}
use Rattle.addresses.specs.Walk.{walked, direct}
use Rattle.addresses.specs.Memory.{hosted, given, filled, looked, served, host_read, emptied, host_written, host_reads, host_writes}
use Rattle.tickets.specs.Queues.{sending, taking, desk}
use Rattle.house.specs.Lists.{list_from, any, first_from}
use Rattle.house.specs.House.{fresh_shadows}
use Rattle.house.specs.Boot.{sum, first_of, boot_verdict, laid, offset, booted_house}
use Rattle.house.specs.Turns.{World, world, next_from, turn_of, request_now, reply_now, queues_next, guest_step, settled_house, step_with, host_step, host_steps}
use Rattle.house.specs.Calls.{boot_call, started, stopped}
use Rattle.demands.specs.Histories.{Boot, booted, Call, run, start, stop, after, steps_of, steps_made, turns_made, turns_in, StaysRunning}
use Rattle.demands.specs.Demands.{BootOf}
use Rattle.demands.proofs.Booted.FreshHouse.{booted_whole, booted_ready}
use Rattle.demands.proofs.Instances.ClosedCalls.{below, below_at, Fit, fit_after, after_run, after_start, after_stop, runs_at_end, runs_onward}
use Rattle.demands.proofs.Demands.{every_boot, fairness_demand}

abbrev zeros : ℕ → List ℕ
zeros n = replicate n 0

-- partition 0: register 1 = 5; partition 1: a trap; partition 2: word 0, which is ill
abbrev memory : List ℕ
memory = zeros 1024 ++ (0x20010005 ∷ zeros 1023 ++ (0xF8000007 ∷ zeros 2047))

-- the boot, by its call
called : BootOf (1 ∷ 1 ∷ 1 ∷ []) 2 (1 ∷ 2 ∷ 3 ∷ []) memory
unfolding boot_call boot_verdict first_of any first_from sum every_boot
called = every_boot (1 ∷ 1 ∷ 1 ∷ []) 2 (1 ∷ 2 ∷ 3 ∷ []) memory refl

pub three_guests : Boot
three_guests = called.boot

abbrev begun : World
begun = booted three_guests

pub begun_is : (boot_call (1 ∷ 1 ∷ 1 ∷ []) 2 (1 ∷ 2 ∷ 3 ∷ []) memory).world ≡ begun
unfolding three_guests
begun_is = called.left

abbrev one : World
one = host_steps 1 begun

abbrev without : World
without = world (stopped one.house 1) one.memory

abbrev again : World
again = world (started without.house 1) without.memory

abbrev ended : World
ended = host_steps 4 again

-- one step of 0; 1 is stopped and started; one more of 0, a trap of 1, and two steps of 2
abbrev calls : List Call
calls = run 1 ∷ stop 1 ∷ start 1 ∷ run 4 ∷ []

computing : ℕ
unfolding fresh_shadows three_guests called every_boot inner outer list_from any laid offset booted_house next_from turn_of request_now reply_now queues_next desk sending taking asked effect_request guest_step settled_house step_with host_step host_steps started stopped judged walked direct hosted given filled looked served host_read emptied host_written host_reads host_writes step fetched executed loaded stored accessed received after_read after_write left_by handled changed_by settled retabled instruction_of register_type effect_of written value_of overflows_of operated reached loads stores moved_to trap_of special_of with_special with_count ticked raised interrupted level_of count_trailing_zeros extended_by read_in holds turns_in part_type field put width brought placed
computing = 0

some : {n : ℕ} (k : ℕ) → n ≡ suc k → n ≡ 0 → ⊥
some k e z = omega arith

words : (i : ℕ) → get_or three_guests.memory i 0 < 2 ^ 32
unfolding three_guests called every_boot below
words = below_at memory refl

fit_begun : Fit 3 begun
unfolding booted_house three_guests called every_boot
fit_begun = record { typed = (booted_ready three_guests words).typed; whole = booted_whole three_guests; size = refl; count = refl }

to_one : (after (run 1) begun ≡ one) × (steps_of (run 1) begun ≡ 1)
to_one = after_run begun fit_begun 1 (omega arith) (some 1 (unfold computing in refl))

fit_one : Fit 3 one
fit_one = fit_after begun fit_begun (run 1) to_one.0

to_without : after (stop 1) one ≡ without
to_without = after_stop one fit_one 1 (omega arith)

fit_without : Fit 3 without
fit_without = fit_after one fit_one (stop 1) to_without

to_again : after (start 1) without ≡ again
to_again = after_start without fit_without 1 (omega arith)

fit_again : Fit 3 again
fit_again = fit_after without fit_without (start 1) to_again

to_ended : (after (run 4) again ≡ ended) × (steps_of (run 4) again ≡ 4)
to_ended = after_run again fit_again 4 (omega arith) (some 0 (unfold computing in refl))

stays : StaysRunning calls begun 2
stays =
    runs_onward _ _ begun one 2 (unfold computing in refl) to_one.0
    (runs_onward _ _ one without 2 (unfold computing in refl) to_without
    (runs_onward _ _ without again 2 (unfold computing in refl) to_again
    (runs_onward _ _ again ended 2 (unfold computing in refl) to_ended.0
    (runs_at_end ended 2 (unfold computing in refl)))))

five : steps_made calls begun ≡ 5
unfolding steps_made
five = simp (to_one.0, to_without, to_again, to_one.1, to_ended.1) (unfold steps_of in refl)

bound : (begun.house.count - 1) * begun.house.q + 1 ≡ 5
unfolding three_guests called every_boot booted_house
bound = refl

last_of_three : 2 < begun.house.count
unfolding three_guests called every_boot booted_house
last_of_three = omega arith

pub fair : 0 < turns_made calls begun 2
fair = fairness_demand begun calls 2 last_of_three stays (omega (arith, bound, five))
