-- The three demands: a theorem for each statement of specs/Demands.antt, in its order.
use mathlib.Core.Path.{◌≡◌, refl, sym, ap, subst, ◌∙◌}
use mathlib.Core.Bool.{false}
use mathlib.Core.List.{List}
use Prim.Native.Nat.{ℕ, ◌+◌}
use native.Mathlib.Omega.{arith}
use borrow.Author.Tests.{eq-eqb, ne_eqb}
use lib.Dec.{eqb}
use lib.ListN.{length, get_or, length-append}
use Rattle.dlx.specs.Choice.{when◌then◌else◌}
use Rattle.dlx.specs.Machine.{steps}
use Rattle.dlx.proofs.Feeds.{steps_same}
use Rattle.addresses.specs.Memory.{lone_memory}
use Rattle.dlx.proofs.Tests.{by_test, by_eq}
use Rattle.house.specs.House.{no_house, queues_of}
use Rattle.house.specs.Damage.{damaged}
use Rattle.house.specs.Boot.{boot_verdict}
use Rattle.house.specs.Turns.{World, world}
use Rattle.house.specs.Calls.{boot_call, run_verdict, run_call, one_verdict, start_call, stop_call, empty_call, read_verdict, read_call}
use Rattle.demands.specs.Histories.{booted, history, turns_made, lone_at_boot, queue_in, log_of, tickets_off, feed_of}
use Rattle.demands.specs.Demands.{RefusedMeansUntouched, MayStep, Isolation, EveryStep, RunIsolation, Frame0, EveryBoot, NeverDamaged, Step, WithinRuns, Reach, Histories, EqualGuests, EqualCounters, Tickets, TicketCounts, ReadsThosePages, Fairness, FairShares}
use Rattle.house.proofs.Lists.Bounded.{one_way}
use Rattle.house.proofs.Calls.Verdicts.{run_done}
use Rattle.house.specs.Sound.{Sound}
use Rattle.house.proofs.Damage.Denied.{undamaged_from}
use Rattle.house.proofs.Turns.HostStep.{steps_ready}
use Rattle.house.proofs.Damage.Undamaged.{undamaged_gives, sound}
use Rattle.demands.proofs.Isolation.Isolated.{step_isolated}
use Rattle.demands.proofs.Isolation.IsolatedRun.{same_verdict, answers_alike}
use Rattle.demands.proofs.Isolation.FrameZero.{apart_undamaged, apart_given}
use Rattle.demands.proofs.Booted.FreshHouse.{booted_few, booted_whole, booted_ready}
use Rattle.demands.proofs.Histories.Stays.{history_stays}
use Rattle.demands.proofs.Histories.Standing.{step_of, firm}
use Rattle.demands.proofs.Histories.Grown.{standing, run_grown, run_busy}
use Rattle.demands.proofs.Histories.Landings.{lands}
use Rattle.demands.proofs.Histories.Counted.{at_end, end_lone, end_counter}
use Rattle.tickets.proofs.Queues.{queue_count}
use Rattle.house.proofs.Turns.Kept.{queued_of}
use Rattle.demands.proofs.ReadOut.{reads_pages}
use Rattle.demands.proofs.Fairness.{others_most}
use Rattle.demands.proofs.Shares.{shares_most}

-- ---- demand 1

refused_given : {A : Type 0} (n : ℕ) (done given : A) → (n ≡ 0 → ⊥) → (when eqb n 0 then done else given) ≡ given
refused_given n done given r = rw (ne_eqb n 0 r)

pub refused_means_untouched : RefusedMeansUntouched
unfolding boot_call run_call start_call stop_call empty_call read_call
refused_means_untouched = record {
  boot = λ ps fr m q. refused_given (boot_verdict ps q fr (length m)).number _ (world no_house m);
  run = λ w k. refused_given (run_verdict w k).number _ w;
  start = λ w i. refused_given (one_verdict w.house i).number _ w;
  stop = λ w i. refused_given (one_verdict w.house i).number _ w;
  empty = λ w i. refused_given (one_verdict w.house i).number _ w;
  read = λ w i a n out r. (refl, refused_given (read_verdict w i a n out).number _ out r);
}

may_sound : (w : World) → MayStep w → Sound w
may_sound w o = sound w.house o.whole w.memory o.shaped o.size o.busy

pub isolation_demand : Isolation
isolation_demand w w' o o' = step_isolated w.house w'.house w.memory w'.memory (may_sound w o) (may_sound w' o')

pub every_step : EveryStep
unfolding run_call
every_step w k j y e l =
    let d = run_done w k e in
    let r = steps_ready j w (record { typed = y; whole = undamaged_gives w.house d.whole; size = d.size; busy = d.busy (λ z. omega arith) }) in
    (r.typed, record { shaped = r.typed.shaped; whole = undamaged_from _ r.whole; size = r.size; busy = r.busy })

pub run_isolation : RunIsolation
unfolding run_call
run_isolation h m m' k s long same =
    let a = answers_alike h m m' s long same k in
    (same_verdict h m m' long k, a.house, a.own, a.others)

pub frame_0_demand : Frame0
unfolding run_call
frame_0_demand h m m' k s long same =
    by_test (damaged h)
    (λ e.
    let untouched : (x : List ℕ) → (run_call (world h x) k).world ≡ world h x = λ x. refused_means_untouched.run (world h x) k (λ z. one_way (damaged h) e (run_done (world h x) k z).whole) in
    apart_given h m m' k long same (untouched m) (untouched m'))
    (λ e. apart_undamaged h m m' k (undamaged_gives h e) s long same)

-- ---- demand 2

unfoldable pub every_boot : EveryBoot
unfolding boot_call
every_boot ps q fr m e = record {
  boot = record { pages = ps; q = q; frames = fr; memory = m; done = e };
  pages = refl;
  turns = refl;
  frames = refl;
  memory = refl;
  left = rw (eq-eqb (boot_verdict ps q fr (length m)).number 0 e);
}

pub never_damaged : NeverDamaged
never_damaged b t w g =
    subst (λ (x : World). damaged x.house ≡ false) (sym g.1)
    (history_stays (booted b) (booted_ready b t).typed (booted_whole b) g.0).whole

pub step_demand : Step
step_demand b w g _ = step_of w (firm b w (standing b w g))

pub within_runs : WithinRuns
unfolding run_call
within_runs b w g k j e l = let d = run_done w k e in (run_grown b w g k j d l, run_busy b w g k j d l)

pub reach_demand : Reach
reach_demand b w g = lands w (firm b w (standing b w g))

-- ---- demand 3

pub histories_demand : Histories
histories_demand b cs i l = (end_lone b i l cs, end_counter b i l cs)

pub equal_guests : EqualGuests
equal_guests b cs cs' i l e s =
    let O = lone_memory (get_or b.pages i 0) in
    end_lone b i l cs
    ∙ steps_same O (feed_of cs (booted b) i) (feed_of cs' (booted b) i) (turns_made cs (booted b) i) (lone_at_boot b i) s
    ∙ ap (λ (k : ℕ). steps O (feed_of cs' (booted b) i) k (lone_at_boot b i)) e
    ∙ sym (end_lone b i l cs')

pub equal_counters : EqualCounters
equal_counters b cs cs' i l few few' s e = equal_guests b cs cs' i l (omega (arith, end_counter b i l cs, end_counter b i l cs')) s

pub tickets_demand : Tickets
tickets_demand b cs j l = (at_end b j l cs).tickets

pub ticket_counts : TicketCounts
ticket_counts b cs j l =
    let log = log_of cs (booted b) in
    let w = history cs (booted b) in
    let st = standing b w (cs, refl) in
    ap length (tickets_demand b cs j l)
    ∙ length-append (tickets_off j log) (queue_in w j)
    ∙ ap (λ (n : ℕ). length (tickets_off j log) + n) (queue_count (queues_of w.house) (queued_of w.house st.shaped st.most) j (omega (arith, booted_few b)))

pub reads_those_pages : ReadsThosePages
reads_those_pages b w g = reads_pages w

pub fairness_demand : Fairness
fairness_demand w cs i m e l = by_eq (turns_made cs w i) 0 (λ z. omega (arith, others_most w cs i m e z)) (λ n. omega arith)

pub fair_shares : FairShares
fair_shares w cs z y i j m o r s = (shares_most w cs z y i j m o r s, shares_most w cs z y j i o m s r)
