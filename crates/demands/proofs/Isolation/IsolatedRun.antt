-- A run reads and changes partitions' frames alone: frames of no partition are never read and never changed.
use mathlib.Core.Path.{◌≡◌, refl, sym, ap, subst, ◌∙◌}
use mathlib.Core.List.{List}
use Prim.Native.Nat.{ℕ, zero, suc, ◌+◌, ◌*◌, ◌<◌}
use native.Mathlib.Omega.{arith}
use borrow.Author.Tests.{eqb-true}
use lib.Dec.{eqb}
use lib.ListN.{length, get_or}
use Rattle.dlx.specs.Choice.{when◌then◌else◌}
use Rattle.addresses.specs.Premises.{Own}
use Rattle.dlx.proofs.Tests.{either_both, by_eq}
use Rattle.house.specs.House.{pages_of, frames_of}
use Rattle.house.specs.Boot.{Verdict}
use Rattle.house.specs.Turns.{World, world, host_step, host_steps}
use Rattle.house.specs.Sound.{Shaped, Sound, Undamaged, LaidOut}
use Rattle.house.specs.Calls.{run_verdict, run_call}
use Rattle.demands.specs.Demands.{AgreeOn}
use Rattle.house.specs.declared.House.{House}
use Rattle.house.proofs.Turns.Kept.{sound_step}
use Rattle.house.proofs.Turns.SameLayout.{same_layout, layout_on, step_layout}
use Rattle.house.proofs.Damage.Undamaged.{undamaged_gives, sound}
use Rattle.house.proofs.Calls.Verdicts.{RunDone, run_done}
use Rattle.demands.proofs.Isolation.Isolated.{one_house, one_long, one_isolated}

-- f is no partition's frame
abbrev pub Nobodys : House → ℕ → Type 0
Nobodys h f = (i : ℕ) → i < h.count → Own (frames_of h i) (pages_of h i) f → ⊥

-- Two worlds that came of the house h: their houses are one, every partition's frames agree, and frames of no partition are as in m.
pub record InStep (h : House) (m : List ℕ) (w w' : World) : Type 0 where
  pub house : w.house ≡ w'.house
  pub own : (i : ℕ) → i < h.count → AgreeOn h i w.memory w'.memory
  pub others : (f j : ℕ) → Nobodys h f → j < 1024 → get_or w.memory (f * 1024 + j) 0 ≡ get_or m (f * 1024 + j) 0

-- what is said of g's frames is said of h's
module _ (h g : House) (s : LaidOut h g) (i : ℕ) where
  pub own_of : (f : ℕ) → Own (frames_of g i) (pages_of g i) f → Own (frames_of h i) (pages_of h i) f
  own_of f o = rw (s.frames, s.pages i) at o

  agree_of : (m m' : List ℕ) → AgreeOn g i m m' → AgreeOn h i m m'
  agree_of m m' a = rw (s.frames, s.pages i) at a

  pub agree_in : (m m' : List ℕ) → AgreeOn h i m m' → AgreeOn g i m m'
  agree_in m m' a = rw (s.frames, s.pages i) a

module _ (h : House) (m : List ℕ) (u : Undamaged h) where
  -- ---- a step

  module _ (g : House) (ma mb : List ℕ) (s : LaidOut h g) (o : Sound (world g ma)) (long : length ma ≡ length mb) (r : InStep h m (world g ma) (world g mb)) where
    here : g.current < h.count
    here = omega (arith, o.here, s.count)

    agrees : AgreeOn g g.current ma mb
    agrees = agree_in h g s g.current ma mb (r.own g.current here)

    -- another partition's frames are kept in both
    others_own : (i : ℕ) → i < h.count → (i ≡ g.current → ⊥) → AgreeOn h i (host_step (world g ma)).memory (host_step (world g mb)).memory
    others_own i l d k j b c =
        let f = get_or (frames_of h i) k 0 in
        let t = one_isolated g ma mb o long agrees in
        let n : Own (frames_of g g.current) (pages_of g g.current) f → ⊥ = λ x. d (let y = own_of h g s g.current f x in (u.once i g.current k y.0 l here b y.1 (sym y.2)).0) in
        t.foreign f j n c ∙ r.own i l k j b c ∙ sym (t.foreign' f j n c)

    step_agrees : InStep h m (host_step (world g ma)) (host_step (world g mb))
    step_agrees =
        let t = one_isolated g ma mb o long agrees in
        let a = (host_step (world g ma)).memory in
        let b = (host_step (world g mb)).memory in
        record {
          house = one_house g ma mb o long agrees;
          own = λ i l. by_eq i g.current
              (λ q. subst (λ (x : ℕ). AgreeOn h x a b) (sym q) (agree_of h g s g.current a b t.own))
              (λ d. others_own i l d);
          others = λ f j n l. t.foreign f j (λ x. n g.current here (own_of h g s g.current f x)) l ∙ r.others f j n l;
        }

  -- ---- steps

  record Ran (w w' : World) : Type 0 where
    layout : LaidOut h w.house
    sound : Sound w
    long : length w.memory ≡ length w'.memory
    alike : InStep h m w w'

  step_ran : (w w' : World) → Ran w w' → Ran (host_step w) (host_step w')
  step_ran w w' r =
      let one : world w.house w'.memory ≡ w' = ap (λ (x : House). world x w'.memory) r.alike.house in
      let now = subst (InStep h m w) (sym one) r.alike in
      let at = w.house in
      record {
        layout = layout_on h w.house _ r.layout (step_layout w);
        sound = sound_step w r.sound;
        long = subst (λ (x : World). length (host_step w).memory ≡ length (host_step x).memory) one (one_long at w.memory w'.memory r.sound r.long (agrees at w.memory w'.memory r.layout r.sound r.long now));
        alike = subst (λ (x : World). InStep h m (host_step w) (host_step x)) one (step_agrees at w.memory w'.memory r.layout r.sound r.long now);
      }

  steps_ran : (k : ℕ) (w w' : World) → Ran w w' → Ran (host_steps k w) (host_steps k w')
  unfolding host_steps
  steps_ran zero w w' r = r
  steps_ran (suc k) w w' r = step_ran (host_steps k w) (host_steps k w') (steps_ran k w w' r)

-- ---- a run

pub same_verdict : (h : House) (m m' : List ℕ) → length m ≡ length m' → (k : ℕ) → run_verdict (world h m) k ≡ run_verdict (world h m') k
unfolding run_verdict
same_verdict h m m' long k = rw long

module _ (h : House) (m m' : List ℕ) (s : Shaped h) (long : length m ≡ length m') (same : (i : ℕ) → i < h.count → AgreeOn h i m m') where
  given_alike : InStep h m (world h m) (world h m')
  given_alike = record { house = refl; own = same; others = λ _ _ _ _. refl }

  done_alike : (k : ℕ) → RunDone (world h m) k → InStep h m (host_steps k (world h m)) (host_steps k (world h m'))
  unfolding host_steps
  done_alike zero d = given_alike
  done_alike (suc k) d =
      let u = undamaged_gives h d.whole in
      let r : Ran h m u (world h m) (world h m') = record {
        layout = same_layout h;
        sound = sound h d.whole m s d.size (d.busy (λ z. omega arith));
        long = long;
        alike = given_alike;
      } in
      (steps_ran h m u (suc k) (world h m) (world h m') r).alike

  pub answers_alike : (k : ℕ) → InStep h m (run_call (world h m) k).world (run_call (world h m') k).world
  unfolding run_call
  answers_alike k =
      let w = world h m in
      let w' = world h m' in
      subst (λ (v : Verdict). InStep h m (run_call w k).world (when eqb v.number 0 then host_steps k w' else w')) (same_verdict h m m' long k)
      (either_both (InStep h m) (eqb (run_verdict w k).number 0)
      (λ t. done_alike k (run_done w k (eqb-true (run_verdict w k).number 0 t)))
      (λ _. given_alike))
