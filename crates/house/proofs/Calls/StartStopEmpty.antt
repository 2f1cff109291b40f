-- Start, stop and empty keep a house undamaged.
use mathlib.Core.Path.{◌≡◌, refl, sym, ap, ◌∙◌}
use mathlib.Core.Bool.{Bool, true, false, not, ◌&&◌}
use mathlib.Core.List.{List}
use Prim.Native.Nat.{ℕ, ◌*◌, ◌^◌, ◌<◌}
use native.Mathlib.Omega.{arith}
use borrow.Author.Tests.{eqb-false, ltb-true, ltb-false, eq-eqb, ne_eqb}
use lib.Dec.{ltb, eqb}
use lib.ListN.{get_or, set, length-set}
use lib.Seq.{set-get_or, get_or-set_same, get_or-set_other}
use Rattle.dlx.proofs.Kept.{get_or_set_elim}
use Rattle.addresses.specs.Walk.{entries}
use Rattle.addresses.specs.Memory.{fresh_shadow}
use Rattle.dlx.proofs.Tests.{by_test, by_eq, get_or_replicate_same}
use Rattle.addresses.proofs.Kept.{zeros_words}
use Rattle.house.specs.Lists.{any}
use Rattle.house.specs.House.{runs, pages_of, frames_of, turn}
use Rattle.house.specs.Calls.{started, stopped, emptied_house}
use Rattle.house.specs.Turns.{World, world}
use Rattle.house.specs.Sound.{Undamaged, Typed, Stays}
use Rattle.house.specs.declared.House.{House}
use Rattle.house.proofs.Damage.Conditions.{empty_proper}
use Rattle.house.proofs.Calls.Emptied.{fresh_count, emptied_shaped, emptied_own, emptied_other}
use Rattle.dlx.proofs.Parts.{outer_each}
use Rattle.house.proofs.Lists.Bounded.{one_way, any_at, any_none}
use Rattle.house.proofs.Turns.Kept.{next_below, next_runs}
use Rattle.house.proofs.Damage.Undamaged.{undamaged_gives}
use Rattle.house.proofs.Damage.Changed.{FlagsRight, TurnRight, ShadowsRight, same_flags, same_shadows, changed_stays}
use Rattle.house.proofs.Calls.Verdicts.{OneDone}

-- Starting a running one or stopping a stopped one changes nothing.
module _ (h : House) (i : ℕ) (d : OneDone h i) where
  pub started_running : runs h i ≡ true → started h i ≡ h
  unfolding started
  started_running r =
      let u = undamaged_gives h d.whole in
      let n : h.left ≡ 0 → ⊥ = λ z. one_way (runs h i) r ((u.idle z).1 i (omega (arith, d.there, u.few))) in
      let e : set h.running i true ≡ h.running = ap (set h.running i) (sym r) ∙ set-get_or h.running i false in
      rw (ne_eqb h.left 0 n, e)

  pub stopped_still : runs h i ≡ false → stopped h i ≡ h
  unfolding stopped
  stopped_still r =
      let u = undamaged_gives h d.whole in
      let e : set h.running i false ≡ h.running = ap (set h.running i) (sym r) ∙ set-get_or h.running i false in
      let t : (not (eqb h.left 0) && eqb h.current i) ≡ false =
      by_eq h.left 0
      (λ z. rw (eq-eqb h.left 0 z))
      (λ n. rw (ne_eqb h.left 0 n, ne_eqb h.current i (λ z. one_way (runs h h.current) (u.busy n).1 (ap (runs h) z ∙ r)))) in
      rw (t, e)

module _ (w : World) (i : ℕ) (y : Typed w) (d : OneDone w.house i) where
  abbrev h : House
  h = w.house

  u : Undamaged h
  u = undamaged_gives h d.whole

  small : i < 8
  small = omega (arith, d.there, u.few)

  -- a flag set leaves unused places still
  flag_right : (b : Bool) → FlagsRight h (set h.running i b)
  flag_right b = record {
    long = length-set h.running i b ∙ y.shaped.running;
    still = λ j l m. get_or-set_other h.running i j b false (λ q. absurd (omega (arith, d.there))) ∙ (u.unused j l m).still;
  }

  -- ---- start

  started_right : TurnRight h (started h i).running (turn (started h i).current (started h i).left)
  unfolding started
  started_right =
      by_test (eqb h.left 0)
      (λ e. rw e (record {
        idle = λ z. absurd (omega (arith, u.turns.0));
        busy = λ _. (d.there, get_or-set_same h.running i true false (omega (arith, y.shaped.running, small)), omega arith);
      }))
      (λ e. rw e (record {
        idle = λ z. absurd (eqb-false h.left 0 e z);
        busy = λ n. let b = u.busy n in (b.0, get_or_set_elim (λ (x : Bool). x ≡ true) h.running i h.current true false (λ _. refl) b.1, b.2);
      }))

  pub started_stays : Stays w (world (started h i) w.memory)
  unfolding started
  started_stays = changed_stays h w.memory u y _ _ _ (flag_right true) started_right (same_shadows h w.memory u y)

  -- ---- stop

  abbrev off : List Bool
  off = set h.running i false

  off_still : (j : ℕ) → runs h j ≡ false → get_or off j false ≡ false
  off_still j e = get_or_set_elim (λ (x : Bool). x ≡ false) h.running i j false false (λ _. refl) e

  -- where none is left to run
  none_left : any (λ j. get_or off j false) h.count ≡ false → (j : ℕ) → j < 8 → get_or off j false ≡ false
  none_left e j l =
      by_test (ltb j h.count)
      (λ t. any_none (λ j. get_or off j false) h.count e j (ltb-true j h.count t))
      (λ t. (flag_right false).still j (ltb-false j h.count t) l)

  stopped_right : TurnRight h (stopped h i).running (turn (stopped h i).current (stopped h i).left)
  unfolding stopped
  stopped_right =
      by_test (not (eqb h.left 0) && eqb h.current i)
      (λ s. by_test (any (λ j. get_or off j false) h.count)
      (λ e.
      let c = any_at (λ j. get_or off j false) h.count e in
      rw (s, e) (record {
        idle = λ z. absurd (omega (arith, u.turns.0));
        busy = λ _. (next_below off h.count i h.count d.there, next_runs off h.count c.0 c.1 c.2 i d.there, omega arith);
      }))
      (λ e. rw (s, e) (record { idle = λ _. (omega arith, none_left e); busy = λ n. absurd (n (omega arith)) })))
      (λ s. rw s (record {
        idle = λ z. let b = u.idle z in (b.0, λ j l. off_still j (b.1 j l));
        busy = λ n.
            let b = u.busy n in
            let c : eqb h.current i ≡ false = simp (ne_eqb h.left 0 n) at s in
            (b.0, get_or-set_other h.running i h.current false false (eqb-false h.current i c) ∙ b.1, b.2);
      }))

  pub stopped_stays : Stays w (world (stopped h i) w.memory)
  unfolding stopped
  stopped_stays = changed_stays h w.memory u y _ _ _ (flag_right false) stopped_right (same_shadows h w.memory u y)

  -- ---- empty

  emptied_right : ShadowsRight h (emptied_house h i).shadows
  unfolding emptied_house
  emptied_right = record {
    long = (emptied_shaped h i y.shaped small).shadows;
    proper = λ j px l m. by_eq j i
        (λ q. rw (q, emptied_own h i y.shaped small, get_or_replicate_same entries 0 px) (empty_proper (frames_of h i) (pages_of h i)))
        (λ n. rw (emptied_other h i y.shaped small j (omega (arith, u.few)) n) (u.proper j px l m));
    none = λ j k l m n. rw (emptied_other h i y.shaped small j m (λ q. omega (arith, d.there))) ((u.unused j l m).shadows k n);
    words = outer_each h.shadows (i * entries) entries (omega (arith, y.shaped.shadows, small)) fresh_shadow fresh_count (λ x. x < 2 ^ 32) y.shadows (zeros_words entries);
  }

  pub emptied_stays : Stays w (world (emptied_house h i) w.memory)
  unfolding emptied_house
  emptied_stays =
      changed_stays h w.memory u y _ (turn h.current h.left) _ (same_flags h w.memory u y) (record { idle = u.idle; busy = u.busy }) emptied_right
