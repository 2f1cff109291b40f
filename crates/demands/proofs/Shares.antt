-- Any two running partitions get step counts that differ by at most q: by how many one is ahead of the other is told by where the turn stands, now and at the
-- start of the stretch.
use mathlib.Core.Path.{◌≡◌, refl, sym, ap, subst, ◌∙◌}
use mathlib.Core.Bool.{Bool, true, false, not, ◌&&◌}
use mathlib.Core.List.{List, [], ◌∷◌}
use Prim.Native.Nat.{ℕ, zero, suc, ◌+◌, ◌<◌, ◌≤◌}
use native.Mathlib.Omega.{arith}
use borrow.Author.Tests.{eqb-true}
use lib.Dec.{eqb}
use lib.ListN.{get_or}
use Rattle.dlx.specs.Choice.{when◌then◌else◌}
use Rattle.dlx.proofs.Kept.{either}
use Rattle.dlx.proofs.Tests.{either_both, by_test, by_eq}
use Rattle.house.specs.House.{runs}
use Rattle.house.specs.Damage.{damaged}
use Rattle.house.specs.Turns.{World, world, guest_step, settled_house, step_with, host_step, host_steps}
use Rattle.house.specs.Calls.{run_verdict, run_call, one_verdict, emptied_house, start_call, stop_call, empty_call, read_call}
use Rattle.demands.specs.Histories.{Call, run, start, stop, empty, read_out, after, history, turns_in, steps_of, turns_made, ends_early, early_ends_in, early_ends, start_or_stop, starts_and_stops}
use Rattle.house.specs.declared.House.{House}
use Rattle.house.proofs.Lists.Bounded.{one_way}
use Rattle.house.proofs.Turns.Kept.{in_turn_on}
use Rattle.house.proofs.Turns.SameLayout.{steps_layout}
use Rattle.house.proofs.Turns.Shares.{lead_most, lead_in, step_shares}
use Rattle.house.proofs.Calls.StartStopEmpty.{started_running, stopped_still}
use Rattle.house.proofs.Calls.Verdicts.{run_done, one_done}
use Rattle.house.proofs.Damage.Undamaged.{undamaged_gives}
use Rattle.demands.proofs.Histories.Stays.{after_damaged}
use Rattle.demands.proofs.Fairness.{Turning, turning, steps_running, steps_undamaged}

-- ---- host steps

-- none of k steps ends its turn early
none_early : (k : ℕ) (w : World) → early_ends_in (suc k) w ≡ 0 → (ends_early (host_steps k w) ≡ false) × (early_ends_in k w ≡ 0)
unfolding early_ends_in
none_early k w =
    either (λ x. x + early_ends_in k w ≡ 0 → (ends_early (host_steps k w) ≡ false) × (early_ends_in k w ≡ 0)) (ends_early (host_steps k w))
    (λ _ z. absurd (omega arith))
    (λ e z. (e, omega arith))

steps_turn : (k : ℕ) (w : World) → Turning w.house → Turning (host_steps k w).house
unfolding host_steps host_step step_with settled_house
steps_turn zero w s = s
steps_turn (suc k) w s =
    let x = host_steps k w in
    let h = x.house in
    in_turn_on h.running h.count h.q h.current h.left (guest_step x h.current).0.calls (steps_turn k w s)

-- i is one of a house's partitions, and runs
pub record Runs (h : House) (i : ℕ) : Type 0 where
  pub there : i < h.count
  pub runs : runs h i ≡ true

steps_runs : (k : ℕ) (w : World) (i : ℕ) → Runs w.house i → Runs (host_steps k w).house i
steps_runs k w i r = record {
  there = omega (arith, (steps_layout k w).count, r.there);
  runs = ap (λ (x : List Bool). get_or x i false) (steps_running k w) ∙ r.runs;
}

module _ (i j : ℕ) (d : i ≡ j → ⊥) where
  -- i made as many steps as j, but for those that j was ahead then and is now
  steps_told : (k : ℕ) (w : World) → Runs w.house i → Runs w.house j → Turning w.house → early_ends_in k w ≡ 0
      → turns_in k w j + lead_in w.house i j ≡ turns_in k w i + lead_in (host_steps k w).house i j
  unfolding host_steps turns_in
  steps_told zero w r s t z = refl
  steps_told (suc k) w r s t z =
      let n = none_early k w z in
      let x = steps_runs k w i r in
      let y = steps_runs k w j s in
      let one = step_shares (host_steps k w) i j x.there y.there d x.runs y.runs (steps_turn k w t) (unfold ends_early in n.0) in
      omega (arith, one, steps_told k w r s t n.1)

-- ---- calls

not_counted : (done b : Bool) → ◌≡◌ {A = ℕ} (when done && b then 1 else 0) 0 → done ≡ true → b ≡ false
not_counted true true z e = absurd (omega arith)
not_counted true false z e = refl
not_counted false b z e = one_way false e refl

-- a start or stop that does not change who runs, done or refused, changes nothing
module _ (w : World) (p : ℕ) where
  abbrev done : Bool
  done = eqb (one_verdict w.house p).number 0

  start_none : start_or_stop (start p) w ≡ 0 → after (start p) w ≡ w
  unfolding start_or_stop after start_call
  start_none z =
      either (λ (x : World). x ≡ w) done
      (λ e. ap (λ (h : House). world h w.memory)
      (started_running w.house p (one_done w.house p (eqb-true _ 0 e)) (by_test (runs w.house p) (λ r. r) (λ r. one_way (not (runs w.house p)) (ap not r) (not_counted done _ z e)))))
      (λ _. refl)

  stop_none : start_or_stop (stop p) w ≡ 0 → after (stop p) w ≡ w
  unfolding start_or_stop after stop_call
  stop_none z =
      either (λ (x : World). x ≡ w) done
      (λ e. ap (λ (h : House). world h w.memory) (stopped_still w.house p (one_done w.house p (eqb-true _ 0 e)) (not_counted done _ z e)))
      (λ _. refl)

-- a call after which the same partitions run
call_runs : (c : Call) (w : World) → start_or_stop c w ≡ 0 → (i : ℕ) → Runs w.house i → Runs (after c w).house i
unfolding after run_call empty_call read_call emptied_house
call_runs (run k) w z i r = either (λ (x : World). Runs x.house i) (eqb (run_verdict w k).number 0) (λ _. steps_runs k w i r) (λ _. r)
call_runs (start p) w z i r = subst (λ (x : World). Runs x.house i) (sym (start_none w p z)) r
call_runs (stop p) w z i r = subst (λ (x : World). Runs x.house i) (sym (stop_none w p z)) r
call_runs (empty p) w z i r = either (λ (x : World). Runs x.house i) (eqb (one_verdict w.house p).number 0) (λ _. record { there = r.there; runs = r.runs }) (λ _. r)
call_runs (read_out p a n out) w z i r = r

module _ (i j : ℕ) (d : i ≡ j → ⊥) where
  call_told : (c : Call) (w : World) → Runs w.house i → Runs w.house j → start_or_stop c w ≡ 0 → early_ends_in (steps_of c w) w ≡ 0
      → turns_in (steps_of c w) w j + lead_in w.house i j ≡ turns_in (steps_of c w) w i + lead_in (after c w).house i j
  unfolding after steps_of run_call empty_call read_call emptied_house turns_in
  call_told (run k) w r s z y =
      either_both (λ (n : ℕ) (x : World). early_ends_in n w ≡ 0 → turns_in n w j + lead_in w.house i j ≡ turns_in n w i + lead_in x.house i j) (eqb (run_verdict w k).number 0)
      (λ t y. steps_told i j d k w r s (turning w.house i (run_done w k (eqb-true _ 0 t)).whole r.there r.runs) y)
      (λ _ _. refl) y
  call_told (start p) w r s z y = ap (λ (x : World). 0 + lead_in x.house i j) (sym (start_none w p z))
  call_told (stop p) w r s z y = ap (λ (x : World). 0 + lead_in x.house i j) (sym (stop_none w p z))
  call_told (empty p) w r s z y = either (λ (x : World). 0 + lead_in w.house i j ≡ 0 + lead_in x.house i j) (eqb (one_verdict w.house p).number 0) (λ _. refl) (λ _. refl)
  call_told (read_out p a n out) w r s z y = refl

  -- ---- histories

  pub shares_told : (cs : List Call) (w : World) → Runs w.house i → Runs w.house j → starts_and_stops cs w ≡ 0 → early_ends cs w ≡ 0
      → turns_made cs w j + lead_in w.house i j ≡ turns_made cs w i + lead_in (history cs w).house i j
  unfolding history turns_made starts_and_stops early_ends
  shares_told [] w r s z y = refl
  shares_told (c ∷ cs) w r s z y =
      let z0 : start_or_stop c w ≡ 0 = omega arith in
      let now = call_told c w r s z0 (omega arith) in
      let on = shares_told cs (after c w) (call_runs c w z0 i r) (call_runs c w z0 j s) (omega arith) (omega arith) in
      omega (arith, now, on)

-- a damaged house makes no steps
damaged_still : (cs : List Call) (w : World) → damaged w.house ≡ true → (i : ℕ) → turns_made cs w i ≡ 0
unfolding turns_made turns_in
damaged_still [] w e i = refl
damaged_still (c ∷ cs) w e i =
    by_eq (steps_of c w) 0
    (λ z. rw (z, after_damaged w e c) (omega (arith, damaged_still cs w e i)))
    (λ n. one_way (damaged w.house) e (steps_undamaged c w n))

-- a turn has at most q steps left, in a house that is not damaged
left_most : (h : House) → damaged h ≡ false → h.left ≤ h.q
left_most h e = by_eq h.left 0 (λ z. omega arith) (λ n. ((undamaged_gives h e).busy n).2)

-- the bound, of any two
pub shares_most : (w : World) (cs : List Call) → starts_and_stops cs w ≡ 0 → early_ends cs w ≡ 0 → (i j : ℕ) → i < w.house.count → j < w.house.count
    → runs w.house i ≡ true → runs w.house j ≡ true → turns_made cs w i ≤ turns_made cs w j + w.house.q
shares_most w cs z y i j m o r s =
    by_eq i j
    (λ e. subst (λ (x : ℕ). turns_made cs w i ≤ turns_made cs w x + w.house.q) e (omega arith))
    (λ d.
    by_test (damaged w.house)
    (λ e. omega (arith, damaged_still cs w e i))
    (λ e.
    let told = shares_told i j d cs w (record { there = m; runs = r }) (record { there = o; runs = s }) z y in
    omega (arith, told, lead_most w.house.count w.house.q i j w.house.current w.house.left (left_most w.house e))))
