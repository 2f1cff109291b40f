-- A run by the second engine as calls, and histories with runs by either.
use mathlib.Core.Path.{◌≡◌, refl, sym, ap, subst, ◌∙◌}
use mathlib.Core.List.{List, [], ◌∷◌, ◌++◌, append_assoc, append-nil}
use Prim.Native.Nat.{ℕ, zero, suc, ◌+◌, ◌%◌, ◌^◌, ◌<◌}
use native.Mathlib.Omega.{arith}
use borrow.Author.Tests.{eq-eqb, ne_eqb}
use lib.Dec.{eqb}
use lib.ListN.{length, get_or}
use Rattle.dlx.specs.Choice.{when◌then◌else◌}
use Rattle.dlx.specs.Machine.{steps, reply}
use Rattle.dlx.proofs.Tests.{by_eq}
use Rattle.addresses.specs.Memory.{lone_memory}
use Rattle.house.specs.Lists.{list_from}
use Rattle.house.specs.House.{partition}
use Rattle.house.specs.Boot.{booted_house}
use Rattle.house.specs.Turns.{World, host_steps}
use Rattle.house.specs.Sound.{Typed}
use Rattle.house.specs.Calls.{run_verdict, run_call}
use Rattle.house.proofs.Calls.Verdicts.{run_done}
use Rattle.demands.specs.Histories.{Boot, booted, Call, run, empty, after, history, Grown, turns_in, steps_of, steps_made, turns_made, lone_of, lone_at_boot, lone_asks, lone_answer, Event, event_of, log_in, log_of, answers_to}
use Rattle.demands.proofs.Booted.FreshHouse.{booted_whole, booted_ready}
use Rattle.demands.proofs.Demands.{never_damaged, histories_demand}
use Rattle.demands.proofs.Histories.Grown.{standing, history_then}
use Rattle.demands.proofs.Histories.Stays.{history_stays}
use Rattle.demands.proofs.Instances.ClosedCalls.{Fit, fit_after}
use Rattle.staleness.specs.Promises.{Passes}
use Rattle.staleness.proofs.Promises.{grown_pass}
use Rattle.unshadowed.specs.Turns.{unshadowed_steps, all_empty}
use Rattle.unshadowed_run.specs.Calls.{unshadowed_call}
use Rattle.engines.specs.Promises.{empty_each, instead, RunThenEmpty, EitherCall, call, unshadowed_run, after_either, either_history, either_steps_of, after_steps, either_turns_in, either_log_in, either_steps_made, either_turns_made, either_log_of, EitherHistories, one_as_calls, as_calls, Alike, EitherGrown}
use Rattle.engines.proofs.EmptyEach.{each_emptied}
use Rattle.engines.proofs.Promises.{steps_alike, done_runs, refused_runs}

-- ---- one run

module _ (w : World) (k : ℕ) where
  pub instead_done : (run_verdict w k).number ≡ 0 → instead k w ≡ run k ∷ empty_each w.house.count
  unfolding instead run_call
  instead_done e = rw (eq-eqb (run_verdict w k).number 0 e)

  instead_refused : ((run_verdict w k).number ≡ 0 → ⊥) → instead k w ≡ run k ∷ []
  unfolding instead run_call
  instead_refused n = rw (ne_eqb (run_verdict w k).number 0 n)

  -- the steps of either engine's
  made_done : (run_verdict w k).number ≡ 0 → (either_steps_of (unshadowed_run k) w ≡ k) × (steps_of (run k) w ≡ k)
  unfolding either_steps_of steps_of unshadowed_call run_call
  made_done e = let t = eq-eqb (run_verdict w k).number 0 e in (rw t, rw t)

  made_refused : ((run_verdict w k).number ≡ 0 → ⊥) → (either_steps_of (unshadowed_run k) w ≡ 0) × (steps_of (run k) w ≡ 0)
  unfolding either_steps_of steps_of unshadowed_call run_call
  made_refused n = let t = ne_eqb (run_verdict w k).number 0 n in (rw t, rw t)

pub run_then_empty : RunThenEmpty
unfolding history after
run_then_empty w y p k =
    by_eq (run_verdict w k).number 0
    (λ e.
    let d = run_done w k e in
    let f : Fit w.house.count w = record { typed = y; whole = d.whole; size = d.size; count = refl } in
    done_runs w y.shaped p k e
    ∙ sym (each_emptied (run_call w k).world (fit_after w f (run k) refl))
    ∙ ap (λ (cs : List Call). history cs w) (sym (instead_done w k e)))
    (λ n. refused_runs w y.shaped p k n ∙ ap (λ (cs : List Call). history cs w) (sym (instead_refused w k n)))

-- ---- calls one after the other

made_then : (cs ds : List Call) (w : World) → steps_made (cs ++ ds) w ≡ steps_made cs w + steps_made ds (history cs w)
unfolding history steps_made
made_then [] ds w = omega arith
made_then (c ∷ cs) ds w = omega (arith, made_then cs ds (after c w))

turns_then : (i : ℕ) (cs ds : List Call) (w : World) → turns_made (cs ++ ds) w i ≡ turns_made cs w i + turns_made ds (history cs w) i
unfolding history turns_made
turns_then i [] ds w = omega arith
turns_then i (c ∷ cs) ds w = omega (arith, turns_then i cs ds (after c w))

log_then : (cs ds : List Call) (w : World) → log_of (cs ++ ds) w ≡ log_of cs w ++ log_of ds (history cs w)
unfolding history log_of
log_then [] ds w = refl
log_then (c ∷ cs) ds w =
    ap (λ (l : List Event). log_in (steps_of c w) w ++ l) (log_then cs ds (after c w))
    ∙ sym (append_assoc (log_in (steps_of c w) w) (log_of cs (after c w)) (log_of ds (history cs (after c w))))

-- emptyings make no step
module _ (j : ℕ) where
  made_empty : (i n : ℕ) (w : World) → steps_made (list_from empty i n) w ≡ 0
  unfolding steps_made list_from steps_of
  made_empty i zero w = refl
  made_empty i (suc n) w = omega (arith, made_empty (suc i) n (after (empty i) w))

  turns_empty : (i n : ℕ) (w : World) → turns_made (list_from empty i n) w j ≡ 0
  unfolding turns_made list_from steps_of turns_in
  turns_empty i zero w = refl
  turns_empty i (suc n) w = omega (arith, turns_empty (suc i) n (after (empty i) w))

  log_empty : (i n : ℕ) (w : World) → log_of (list_from empty i n) w ≡ []
  unfolding log_of list_from steps_of log_in
  log_empty i zero w = refl
  log_empty i (suc n) w = log_empty (suc i) n (after (empty i) w)

-- ---- the host steps of a run, one by one

-- no shadow is looked at to tell what was asked
event_bare : (w : World) → event_of (all_empty w) ≡ event_of w
unfolding event_of lone_answer lone_asks lone_of
event_bare w = refl

module _ (w : World) (k : ℕ) (same : (n : ℕ) → all_empty (host_steps n w) ≡ all_empty (unshadowed_steps n w)) where
  turns_alike : (i n : ℕ) → either_turns_in (unshadowed_run k) n w i ≡ turns_in n w i
  unfolding either_turns_in turns_in after_steps
  turns_alike i zero = refl
  turns_alike i (suc n) =
      ap (λ (v : World). (when eqb v.house.current i then 1 else 0) + either_turns_in (unshadowed_run k) n w i) (sym (same n))
      ∙ ap (λ (m : ℕ). (when eqb (host_steps n w).house.current i then 1 else 0) + m) (turns_alike i n)

  log_alike : (n : ℕ) → either_log_in (unshadowed_run k) n w ≡ log_in n w
  unfolding either_log_in log_in after_steps
  log_alike zero = refl
  log_alike (suc n) =
      ap (λ (l : List Event). l ++ (event_of (unshadowed_steps n w) ∷ [])) (log_alike n)
      ∙ ap (λ (e : Event). log_in n w ++ (e ∷ [])) (sym (event_bare (unshadowed_steps n w)) ∙ ap event_of (sym (same n)) ∙ event_bare (host_steps n w))

-- those of a call are the first engine's
turns_call : (c : Call) (w : World) (i n : ℕ) → either_turns_in (call c) n w i ≡ turns_in n w i
unfolding either_turns_in turns_in after_steps
turns_call c w i zero = refl
turns_call c w i (suc n) = ap (λ (m : ℕ). (when eqb (host_steps n w).house.current i then 1 else 0) + m) (turns_call c w i n)

log_call : (c : Call) (w : World) (n : ℕ) → either_log_in (call c) n w ≡ log_in n w
unfolding either_log_in log_in after_steps
log_call c w zero = refl
log_call c w (suc n) = ap (λ (l : List Event). l ++ (event_of (host_steps n w) ∷ [])) (log_call c w n)

-- ---- one call, by either engine, in a house grown from a boot

-- what it leaves and makes, and what the calls in its place do
pub record AlikeOne (e : EitherCall) (cs : List Call) (w : World) : Type 0 where
  pub left : after_either e w ≡ history cs w
  pub steps : either_steps_of e w ≡ steps_made cs w
  pub turns : (i : ℕ) → either_turns_in e (either_steps_of e w) w i ≡ turns_made cs w i
  pub log : either_log_in e (either_steps_of e w) w ≡ log_of cs w

call_alike : (c : Call) (w : World) → AlikeOne (call c) (c ∷ []) w
unfolding after_either either_steps_of history steps_made turns_made log_of
call_alike c w = record {
  left = refl;
  steps = omega arith;
  turns = λ i. omega (arith, turns_call c w i (steps_of c w));
  log = log_call c w (steps_of c w) ∙ sym (append-nil (log_in (steps_of c w) w));
}

module _ (w : World) (y : Typed w) (p : Passes w) (k : ℕ) where
  -- as many of each partition, and the same log, where the run is done
  turns_done : (run_verdict w k).number ≡ 0 → (i : ℕ) → either_turns_in (unshadowed_run k) k w i ≡ turns_in k w i
  unfolding either_turns_in turns_in
  turns_done e i = by_eq k 0 (λ z. rw z) (λ _. turns_alike w k (steps_alike w y.shaped p) i k)

  log_done : (run_verdict w k).number ≡ 0 → either_log_in (unshadowed_run k) k w ≡ log_in k w
  unfolding either_log_in log_in
  log_done e = by_eq k 0 (λ z. rw z) (λ _. log_alike w k (steps_alike w y.shaped p) k)

  run_alike : AlikeOne (unshadowed_run k) (instead k w) w
  unfolding after_either history steps_made turns_made log_of
  run_alike =
      by_eq (run_verdict w k).number 0
      (λ e.
      let m = made_done w k e in
      let v = after (run k) w in
      let n = w.house.count in
      record {
        left = run_then_empty w y p k;
        steps = rw (instead_done w k e) (omega (arith, m.0, m.1, made_empty 0 0 n v));
        turns = λ i. rw (instead_done w k e, m.0, m.1) (omega (arith, turns_done e i, turns_empty i 0 n v));
        log = rw (instead_done w k e, m.0, m.1) (log_done e ∙ sym (append-nil (log_in k w)) ∙ ap (λ (l : List Event). log_in k w ++ l) (sym (log_empty 0 0 n v)));
      })
      (λ z.
      let m = made_refused w k z in
      record {
        left = run_then_empty w y p k;
        steps = rw (instead_refused w k z) (omega (arith, m.0, m.1));
        turns = λ i. rw (instead_refused w k z, m.0, m.1) (unfold either_turns_in turns_in in refl);
        log = rw (instead_refused w k z, m.0, m.1) (unfold either_log_in log_in in refl);
      })

-- ---- from any grown house on

module _ (b : Boot) (words : (i : ℕ) → get_or b.memory i 0 < 2 ^ 32) where
  grown_typed : (w : World) → Grown b w → Typed w
  grown_typed w g = subst Typed (sym g.1) (history_stays (booted b) (booted_ready b words).typed (booted_whole b) g.0).typed

  one_alike : (e : EitherCall) (w : World) → Grown b w → AlikeOne e (one_as_calls e w) w
  unfolding one_as_calls
  one_alike (call c) w g = call_alike c w
  one_alike (unshadowed_run k) w g = run_alike w (grown_typed w g) (grown_pass b words w g).0 k

  pub grown_after : (e : EitherCall) (w : World) → Grown b w → Grown b (after_either e w)
  grown_after e w g = (
    g.0 ++ one_as_calls e w,
    (one_alike e w g).left ∙ ap (history (one_as_calls e w)) g.1 ∙ sym (history_then g.0 (one_as_calls e w) (booted b)),
  )

  pub grown_fit : (w : World) → Grown b w → Fit (length b.pages) w
  unfolding booted_house
  grown_fit w g =
      let s = standing b w g in
      record { typed = grown_typed w g; whole = never_damaged b words w g; size = s.size ∙ sym s.layout.words; count = s.layout.count }

  either_on : (es : List EitherCall) (w : World) → Grown b w → Alike es (as_calls es w) w
  unfolding either_history as_calls either_steps_made either_turns_made either_log_of
  either_on [] w g = record {
    left = unfold history in refl;
    steps = unfold steps_made in refl;
    turns = λ i. unfold turns_made in refl;
    log = unfold log_of in refl;
  }
  either_on (e ∷ es) w g =
      let o = one_alike e w g in
      let v = after_either e w in
      let cs = one_as_calls e w in
      let ds = as_calls es v in
      let h = either_on es v (grown_after e w g) in
      record {
        left = h.left ∙ ap (history ds) o.left ∙ sym (history_then cs ds w);
        steps = omega (arith, h.steps, o.steps, made_then cs ds w, ap (steps_made ds) o.left);
        turns = λ i. omega (arith, h.turns i, o.turns i, turns_then i cs ds w, ap (λ (x : World). turns_made ds x i) o.left);
        log = ap (λ (l : List Event). l ++ either_log_of es v) o.log
            ∙ ap (λ (l : List Event). log_of cs w ++ l) (h.log ∙ ap (log_of ds) o.left)
            ∙ sym (log_then cs ds w);
      }

pub either_grown : EitherGrown
either_grown b t es = either_on b t es (booted b) ([], unfold history in refl)

pub either_histories : EitherHistories
either_histories b t es i l =
    let cs = as_calls es (booted b) in
    let a = either_grown b t es in
    let h = histories_demand b cs i l in
    let machine : List Event → ℕ → _ = λ log n. steps (lone_memory (get_or b.pages i 0)) (λ k. get_or (answers_to i log) k (reply 0 0)) n (lone_at_boot b i) in (
      ap (λ (x : World). lone_of x i) a.left
          ∙ h.0
          ∙ ap (λ (log : List Event). machine log (turns_made cs (booted b) i)) (sym a.log)
          ∙ ap (λ (n : ℕ). machine (either_log_of es (booted b)) n) (sym (a.turns i)),
      ap (λ (x : World). (partition x.house i).counter) a.left ∙ h.1 ∙ ap (λ (n : ℕ). n % 2 ^ 64) (sym (a.turns i)),
    )
