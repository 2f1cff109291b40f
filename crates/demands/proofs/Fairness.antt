-- A partition that stays running makes a step within (n-1)q+1 host steps: each step of another brings its turn nearer, and no call puts it off.
use mathlib.Core.Path.{◌≡◌, refl, sym, ap, subst, ◌∙◌}
use mathlib.Core.Bool.{Bool, true, false, not, ◌&&◌, ◌||◌}
use mathlib.Core.List.{List, [], ◌∷◌}
use Prim.Native.Nat.{ℕ, zero, suc, ◌+◌, ◌-◌, ◌*◌, ◌<◌, ◌≤◌}
use native.Mathlib.Nat.{mul-le-mul_right}
use native.Mathlib.Omega.{arith}
use borrow.Author.Tests.{eqb-true, eqb-false, ne_eqb}
use lib.Dec.{eqb}
use lib.ListN.{get_or, set}
use Rattle.dlx.specs.Choice.{when◌then◌else◌}
use Rattle.dlx.proofs.Kept.{either}
use Rattle.dlx.proofs.Tests.{either_both, by_eq, get_or_set_default}
use Rattle.house.specs.Lists.{any}
use Rattle.house.specs.House.{runs, turn}
use Rattle.house.specs.Damage.{damaged}
use Rattle.house.specs.Turns.{World, world, next_of, turn_of, guest_step, settled_house, step_with, host_step, host_steps}
use Rattle.house.specs.Calls.{run_verdict, run_call, one_verdict, started, stopped, emptied_house, start_call, stop_call, empty_call, read_call}
use Rattle.demands.specs.Histories.{Call, run, start, stop, empty, read_out, after, history, turns_in, steps_of, steps_made, turns_made, StaysRunning}
use Rattle.house.specs.declared.House.{House}
use Rattle.house.specs.declared.Turn.{Turn}
use Rattle.house.proofs.Lists.Bounded.{or_left, and_right, one_way, any_yes}
use Rattle.house.proofs.Turns.Kept.{next_below, distance, distance_some, distance_other, next_nearer, steps_keep, InTurn, in_turn, in_turn_on}
use Rattle.house.proofs.Turns.SameLayout.{steps_layout}
use Rattle.demands.proofs.Histories.Stays.{after_layout}
use Rattle.house.proofs.Damage.Undamaged.{undamaged_gives}
use Rattle.house.proofs.Calls.Verdicts.{run_done, one_done}

-- ---- how long i waits

-- the host steps before i's turn, at most
wait : ℕ → ℕ → ℕ → ℕ → ℕ → ℕ
wait n q i c l = when eqb c i then 0 else l + (distance n c i - 1) * q

abbrev waiting : House → ℕ → ℕ
waiting h i = wait h.count h.q i h.current h.left

module _ (n q i c l : ℕ) where
  other_waits : (c ≡ i → ⊥) → wait n q i c l ≡ l + (distance n c i - 1) * q
  unfolding wait
  other_waits o = simp (ne_eqb c i o)

  wait_most : i < n → c < n → l ≤ q → wait n q i c l ≤ (n - 1) * q
  unfolding wait
  wait_most m b k =
      either (λ x. x ≤ (n - 1) * q) (eqb c i)
      (λ _. omega arith)
      (λ t.
      let d = distance_other n c i b m (eqb-false c i t) in
      let p = distance_some n c i b in
      let g : (distance n c i - 1 + 1) * q ≤ (n - 1) * q = mul-le-mul_right q (omega arith) in
      omega arith)

-- the turn passed on from c
passed_waits : (r : List Bool) (n q i c : ℕ) → i < n → c < n → get_or r i false ≡ true → wait n q i (next_of r n c) q ≤ (distance n c i - 1) * q
unfolding wait
passed_waits r n q i c m l e =
    either (λ x. x ≤ (distance n c i - 1) * q) (eqb (next_of r n c) i)
    (λ _. omega arith)
    (λ t.
    let d = next_nearer r n i m e c l (eqb-false (next_of r n c) i t) in
    let p = distance_some n (next_of r n c) i (next_below r n c n l) in
    let g : (distance n (next_of r n c) i - 1 + 1) * q ≤ (distance n c i - 1) * q = mul-le-mul_right q (omega arith) in
    omega arith)

-- ---- host steps of others

abbrev pub Turning : House → Type 0
Turning h = InTurn h.running h.count h.q (turn h.current h.left)

turn_waits : (r : List Bool) (n q i c l : ℕ) (calls : Bool) → InTurn r n q (turn c l) → i < n → get_or r i false ≡ true → (c ≡ i → ⊥) → let t = turn_of r n q c l 1 calls in
    1 + wait n q i t.current t.left ≤ wait n q i c l
unfolding turn_of
turn_waits r n q i c l calls s m e o =
    let now = other_waits n q i c l o in
    either (λ (t : Turn). 1 + wait n q i t.current t.left ≤ wait n q i c l) (eqb l 1 || calls)
    (λ _. omega (arith, passed_waits r n q i c m s.here e, s.some))
    (λ b. let k = eqb-false l 1 (or_left (eqb l 1) calls b) in omega (arith, other_waits n q i c (l - 1) o, s.some))

step_waits : (w : World) (i : ℕ) → Turning w.house → i < w.house.count → runs w.house i ≡ true → (w.house.current ≡ i → ⊥)
    → Turning (host_step w).house × (1 + waiting (host_step w).house i ≤ waiting w.house i)
unfolding host_step step_with settled_house
step_waits w i s m e o =
    let h = w.house in
    let calls = (guest_step w h.current).0.calls in
    (in_turn_on h.running h.count h.q h.current h.left calls s, turn_waits h.running h.count h.q i h.current h.left calls s m e o)

pub steps_running : (k : ℕ) (w : World) → (host_steps k w).house.running ≡ w.house.running
unfolding host_step step_with settled_house
steps_running k w = steps_keep (λ x. x.house.running ≡ w.house.running) (λ x e. e) k w refl

-- none of k steps is i's
no_turns : (k : ℕ) (w : World) (i : ℕ) → turns_in (suc k) w i ≡ 0 → ((host_steps k w).house.current ≡ i → ⊥) × (turns_in k w i ≡ 0)
unfolding turns_in
no_turns k w i =
    either (λ x. x + turns_in k w i ≡ 0 → ((host_steps k w).house.current ≡ i → ⊥) × (turns_in k w i ≡ 0)) (eqb (host_steps k w).house.current i)
    (λ _ z. absurd (omega arith))
    (λ e z. (eqb-false (host_steps k w).house.current i e, omega arith))

steps_wait : (k : ℕ) (w : World) (i : ℕ) → Turning w.house → i < w.house.count → runs w.house i ≡ true → turns_in k w i ≡ 0
    → Turning (host_steps k w).house × (k + waiting (host_steps k w).house i ≤ waiting w.house i)
unfolding host_steps
steps_wait zero w i s m e z = (s, omega arith)
steps_wait (suc k) w i s m e z =
    let n = no_turns k w i z in
    let h = steps_wait k w i s m e n.1 in
    let g = step_waits (host_steps k w) i h.0 (omega (arith, (steps_layout k w).count)) (ap (λ (r : List Bool). get_or r i false) (steps_running k w) ∙ e) n.0 in
    (g.0, omega (arith, g.1, h.1))

-- ---- calls

-- in a house that is not damaged one is current while i runs
pub turning : (h : House) (i : ℕ) → damaged h ≡ false → i < h.count → runs h i ≡ true → Turning h
turning h i e m r =
    let u = undamaged_gives h e in
    in_turn h u (λ z. one_way (runs h i) r ((u.idle z).1 i (omega (arith, u.few))))

started_waits : (h : House) (p i : ℕ) → Turning h → waiting (started h p) i ≤ waiting h i
unfolding started
started_waits h p i s =
    either (λ (t : Turn). wait h.count h.q i t.current t.left ≤ waiting h i) (eqb h.left 0)
    (λ e. absurd (omega (arith, s.some, eqb-true h.left 0 e)))
    (λ _. omega arith)

stopped_waits : (h : House) (p i : ℕ) → Turning h → i < h.count → runs (stopped h p) i ≡ true → waiting (stopped h p) i ≤ waiting h i
unfolding stopped
stopped_waits h p i s m e =
    let r = set h.running p false in
    either (λ (t : Turn). wait h.count h.q i t.current t.left ≤ waiting h i) (not (eqb h.left 0) && eqb h.current p)
    (λ t.
    let z = eqb-true h.current p (and_right (not (eqb h.left 0)) (eqb h.current p) t) in
    let o : h.current ≡ i → ⊥ = λ y. one_way (get_or r i false) e (subst (λ (x : ℕ). get_or r x false ≡ false) (sym z ∙ y) (get_or_set_default h.running p false)) in
    either (λ (t : Turn). wait h.count h.q i t.current t.left ≤ waiting h i) (any (λ j. get_or r j false) h.count)
    (λ _.
    let g = subst (λ (x : ℕ). wait h.count h.q i (next_of r h.count x) h.q ≤ (distance h.count h.current i - 1) * h.q) z (passed_waits r h.count h.q i h.current m s.here e) in
    omega (arith, g, other_waits h.count h.q i h.current h.left o))
    (λ n. one_way (any (λ j. get_or r j false) h.count) (any_yes (λ j. get_or r j false) h.count i m e) n))
    (λ _. omega arith)

module _ (w : World) (i : ℕ) (m : i < w.house.count) (e : runs w.house i ≡ true) where
  one_waits : (p : ℕ) (h : House)
      → (Turning w.house → runs h i ≡ true → waiting h i ≤ waiting w.house i)
      → let x = (when eqb (one_verdict w.house p).number 0 then world h w.memory else w) in runs x.house i ≡ true → 0 + waiting x.house i ≤ waiting w.house i
  one_waits p h f =
      either (λ (x : World). runs x.house i ≡ true → 0 + waiting x.house i ≤ waiting w.house i) (eqb (one_verdict w.house p).number 0)
      (λ t r. omega (arith, f (turning w.house i (one_done w.house p (eqb-true (one_verdict w.house p).number 0 t)).whole m e) r))
      (λ _ _. omega arith)

  call_waits : (c : Call) → runs (after c w).house i ≡ true → turns_in (steps_of c w) w i ≡ 0 → steps_of c w + waiting (after c w).house i ≤ waiting w.house i
  unfolding after steps_of run_call start_call stop_call empty_call read_call emptied_house
  call_waits (run k) r z =
      either_both (λ (n : ℕ) (x : World). turns_in n w i ≡ 0 → n + waiting x.house i ≤ waiting w.house i) (eqb (run_verdict w k).number 0)
      (λ t z. (steps_wait k w i (turning w.house i (run_done w k (eqb-true (run_verdict w k).number 0 t)).whole m e) m e z).1)
      (λ _ _. omega arith) z
  call_waits (start p) r z = one_waits p (started w.house p) (λ s _. started_waits w.house p i s) r
  call_waits (stop p) r z = one_waits p (stopped w.house p) (λ s g. stopped_waits w.house p i s m g) r
  call_waits (empty p) r z = one_waits p (emptied_house w.house p) (λ _ _. omega arith) r
  call_waits (read_out p a n out) r z = omega arith

-- a call that makes steps finds the house not damaged
pub steps_undamaged : (c : Call) (w : World) → (steps_of c w ≡ 0 → ⊥) → damaged w.house ≡ false
unfolding steps_of run_call
steps_undamaged (run k) w n =
    either (λ n. (n ≡ 0 → ⊥) → damaged w.house ≡ false) (eqb (run_verdict w k).number 0)
    (λ t _. (run_done w k (eqb-true (run_verdict w k).number 0 t)).whole)
    (λ _ n. absurd (n refl)) n
steps_undamaged (start i) w n = absurd (n refl)
steps_undamaged (stop i) w n = absurd (n refl)
steps_undamaged (empty i) w n = absurd (n refl)
steps_undamaged (read_out i a k out) w n = absurd (n refl)

-- ---- histories

runs_first : (cs : List Call) (w : World) (i : ℕ) → StaysRunning cs w i → runs w.house i ≡ true
unfolding history
runs_first cs w i s = s [] cs refl

runs_on : (c : Call) (cs : List Call) (w : World) (i : ℕ) → StaysRunning (c ∷ cs) w i → StaysRunning cs (after c w) i
unfolding history
runs_on c cs w i s first rest e = s (c ∷ first) rest (ap (λ (l : List Call). c ∷ l) e)

-- a bound in equal terms
in_terms : (x n q n' q' : ℕ) → n ≡ n' → q ≡ q' → x ≤ (n - 1) * q → x ≤ (n' - 1) * q'
in_terms x n q n' q' e f l = rw (← e, ← f) l

-- while only others make steps
others_steps : (cs : List Call) (w : World) (i : ℕ) → i < w.house.count → StaysRunning cs w i → turns_made cs w i ≡ 0
    → (steps_made cs w ≤ waiting w.house i) × (steps_made cs w ≤ (w.house.count - 1) * w.house.q)
unfolding steps_made turns_made
others_steps [] w i m e z = (omega arith, omega arith)
others_steps (c ∷ cs) w i m e z =
    let r = runs_first (c ∷ cs) w i e in
    let e' = runs_on c cs w i e in
    let t = after_layout w c in
    let h = others_steps cs (after c w) i (omega (arith, t.count)) e' (omega arith) in
    let later = in_terms _ _ _ w.house.count w.house.q t.count t.q h.1 in
    let now = call_waits w i m r c (runs_first cs (after c w) i e') (omega arith) in
    let all : steps_of c w + steps_made cs (after c w) ≤ waiting w.house i = omega (arith, h.0) in (
      all,
      by_eq (steps_of c w) 0
          (λ y. omega (arith, later))
          (λ n.
          let s = turning w.house i (steps_undamaged c w n) m r in
          let k = wait_most w.house.count w.house.q i w.house.current w.house.left m s.here s.most in
          omega arith),
    )

pub others_most : (w : World) (cs : List Call) (i : ℕ) → i < w.house.count → StaysRunning cs w i → turns_made cs w i ≡ 0 → steps_made cs w ≤ (w.house.count - 1) * w.house.q
others_most w cs i m e z = (others_steps cs w i m e z).1
