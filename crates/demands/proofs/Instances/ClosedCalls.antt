-- What calls come to in a house that is not damaged, for closed histories; and partitions that stay running over them.
use mathlib.Core.Path.{◌≡◌, sym, ap, subst, ◌∙◌}
use mathlib.Core.Bool.{Bool, true, false, ◌&&◌, and-false}
use mathlib.Core.List.{List, [], ◌∷◌}
use Prim.Native.Nat.{ℕ, zero, suc, ◌^◌, ◌<◌, ◌≤◌}
use native.Mathlib.Omega.{arith}
use borrow.Author.Tests.{eq-eqb, ne_eqb, le-ltb, lt-leb, le-leb, ltb-true}
use lib.Dec.{ltb}
use lib.ListN.{length, get_or}
use Rattle.dlx.proofs.Tests.{and_left}
use Rattle.house.specs.House.{runs}
use Rattle.house.specs.Damage.{damaged}
use Rattle.house.specs.Boot.{verdict, first_of}
use Rattle.house.specs.Turns.{World, world, host_steps}
use Rattle.house.specs.Calls.{run_verdict, run_call, one_verdict, started, stopped, emptied_house, start_call, stop_call, empty_call}
use Rattle.house.specs.Sound.{Typed}
use Rattle.demands.specs.Histories.{Call, run, start, stop, empty, after, history, steps_of, StaysRunning}
use Rattle.house.proofs.Lists.Bounded.{and_right}
use Rattle.demands.proofs.Histories.Stays.{after_stays}

-- ---- words

unfoldable pub below : List ℕ → Bool
below [] = true
below (x ∷ xs) = ltb x (2 ^ 32) && below xs

pub below_at : (l : List ℕ) → below l ≡ true → (i : ℕ) → get_or l i 0 < 2 ^ 32
unfolding below
below_at [] e i = omega arith
below_at (x ∷ xs) e zero = ltb-true x (2 ^ 32) (and_left (ltb x (2 ^ 32)) (below xs) e)
below_at (x ∷ xs) e (suc i) = below_at xs (and_right (ltb x (2 ^ 32)) (below xs) e) i

-- ---- what a call comes to

-- a house of n partitions that is not damaged, in a memory of its size
pub record Fit (n : ℕ) (w : World) : Type 0 where
  pub typed : Typed w
  pub whole : damaged w.house ≡ false
  pub size : length w.memory ≡ w.house.words
  pub count : w.house.count ≡ n

module _ {n : ℕ} (w : World) (f : Fit n w) where
  pub fit_after : (c : Call) {v : World} → after c w ≡ v → Fit n v
  fit_after c e =
      let s = after_stays w f.typed f.whole c in
      subst (Fit n) e (record { typed = s.typed; whole = s.whole; size = s.size ∙ f.size ∙ sym s.layout.words; count = s.layout.count ∙ f.count })

  pub run_verdict_lem : (k : ℕ) → k ≤ 1000000 → (w.house.left ≡ 0 → ⊥) → run_verdict w k ≡ verdict 0 k
  unfolding run_verdict first_of
  run_verdict_lem k l n = simp (f.whole, eq-eqb (length w.memory) w.house.words f.size, le-ltb 1000000 k l, ne_eqb w.house.left 0 n, and-false)

  pub one_verdict_lem : (i : ℕ) → i < n → one_verdict w.house i ≡ verdict 0 0
  unfolding one_verdict first_of
  one_verdict_lem i l = simp (f.whole, f.count, lt-leb n i l)

  pub no_verdict : (i : ℕ) → n ≤ i → one_verdict w.house i ≡ verdict 10 0
  unfolding one_verdict first_of
  no_verdict i l = simp (f.whole, f.count, le-leb n i l)

  pub after_run : (k : ℕ) → k ≤ 1000000 → (w.house.left ≡ 0 → ⊥) → (after (run k) w ≡ host_steps k w) × (steps_of (run k) w ≡ k)
  unfolding after run_call steps_of
  after_run k l n = let v = run_verdict_lem k l n in (rw v, rw v)

  pub after_start : (i : ℕ) → i < n → after (start i) w ≡ world (started w.house i) w.memory
  unfolding after start_call
  after_start i l = rw (one_verdict_lem i l)

  pub after_stop : (i : ℕ) → i < n → after (stop i) w ≡ world (stopped w.house i) w.memory
  unfolding after stop_call
  after_stop i l = rw (one_verdict_lem i l)

  pub after_empty : (i : ℕ) → i < n → after (empty i) w ≡ world (emptied_house w.house i) w.memory
  unfolding after empty_call
  after_empty i l = rw (one_verdict_lem i l)

  pub after_refused : (i : ℕ) → n ≤ i → after (start i) w ≡ w
  unfolding after start_call
  after_refused i l = rw (no_verdict i l)

-- ---- stays running, call by call

first_of_lem : Call → List Call → Call
first_of_lem c [] = c
first_of_lem c (d ∷ ds) = d

rest_of : List Call → List Call
rest_of [] = []
rest_of (d ∷ ds) = ds

pub runs_at_end : (w : World) (i : ℕ) → runs w.house i ≡ true → StaysRunning [] w i
unfolding history
runs_at_end w i r [] rest e = r
runs_at_end w i r (d ∷ first) rest e = absurd (omega (arith, ap length e))

pub runs_before : (c : Call) (cs : List Call) (w : World) (i : ℕ) → runs w.house i ≡ true → StaysRunning cs (after c w) i → StaysRunning (c ∷ cs) w i
unfolding history first_of_lem rest_of
runs_before c cs w i r s [] rest e = r
runs_before c cs w i r s (d ∷ first) rest e =
    subst (λ (x : Call). runs (history first (after x w)).house i ≡ true) (ap (first_of_lem c) e)
    (s first rest (ap rest_of e))

-- the same, where the call leads to v
pub runs_onward : (c : Call) (cs : List Call) (w v : World) (i : ℕ) → runs w.house i ≡ true → after c w ≡ v → StaysRunning cs v i → StaysRunning (c ∷ cs) w i
runs_onward c cs w v i r e s = runs_before c cs w i r (subst (λ (x : World). StaysRunning cs x i) (sym e) s)
