-- Every house and memory grown from a boot stands as a boot leaves it: all calls keep that, done or refused.
use mathlib.Core.Path.{◌≡◌, refl, sym, ap, subst, ◌∙◌}
use mathlib.Core.Bool.{Bool, true, false, not, ◌&&◌, and-false}
use mathlib.Core.List.{List, [], ◌∷◌, ◌++◌}
use Prim.Native.Nat.{ℕ, ◌<◌, ◌≤◌}
use native.Mathlib.Omega.{arith}
use borrow.Author.Tests.{eq-eqb, ne_eqb, le-ltb}
use lib.Dec.{eqb}
use lib.ListN.{length, get_or, set, length-set}
use Rattle.dlx.proofs.Kept.{either}
use Rattle.addresses.specs.Memory.{stale, fresh_shadow}
use Rattle.addresses.proofs.Stale.{fresh_not_stale}
use Rattle.dlx.proofs.Tests.{by_eq, get_or_replicate_same}
use Rattle.house.specs.Lists.{any}
use Rattle.house.specs.House.{partition, frames_of, shadow_of, turn, with_turn}
use Rattle.house.specs.Boot.{first_of, booted_house}
use Rattle.house.specs.Turns.{World, world, host_steps}
use Rattle.house.specs.Calls.{run_verdict, run_call, started, stopped, emptied_house}
use Rattle.demands.specs.Histories.{Boot, booted, Call, run, after, history, Grown}
use Rattle.house.specs.declared.Turn.{Turn}
use Rattle.house.proofs.Damage.Updates.{turn_shaped}
use Rattle.demands.proofs.Booted.FreshHouse.{booted_shaped, booted_shadow, booted_undamaged}
use Rattle.house.proofs.Calls.Emptied.{emptied_shaped, emptied_own, emptied_other}
use Rattle.house.proofs.Turns.SameLayout.{same_layout, layout_on, changed_layout}
use Rattle.house.proofs.Damage.Undamaged.{sound}
use Rattle.house.proofs.Calls.Verdicts.{RunDone}
use Rattle.demands.proofs.Histories.Standing.{RightShadow, Standing, standing_small, firm, standing_step}
use Rattle.house.proofs.Turns.Kept.{next_below, steps_keep, sound_steps}
use Rattle.demands.proofs.Histories.LeftByCalls.{Done, after_keeps, history_keeps}

-- an empty shadow is right
fresh_right : (w : World) (i : ℕ) → shadow_of w.house i ≡ fresh_shadow → RightShadow w i
fresh_right w i e px =
    let p = partition w.house i in
    let fr = frames_of w.house i in
    ap (λ (sh : List ℕ). stale fr p.pages p.table w.memory px (get_or sh px 0)) e ∙ fresh_not_stale fr p.pages p.table w.memory px

pub standing_boot : (b : Boot) → Standing b (booted b)
unfolding booted_house
standing_boot b = record {
  shaped = booted_shaped b;
  layout = same_layout (booted b).house;
  here = (booted_undamaged b).some;
  turns = omega arith;
  size = refl;
  most = λ j. omega (arith, get_or_replicate_same 8 0 j);
  right = λ i l. fresh_right (booted b) i (booted_shadow b i (omega (arith, (booted_undamaged b).few)));
}

pub standing_steps : (b : Boot) (k : ℕ) (w : World) → Standing b w → Standing b (host_steps k w)
standing_steps b = steps_keep (Standing b) (standing_step b)

module _ (b : Boot) (w : World) (st : Standing b w) where
  -- who runs, and whose turn it is
  abbrev InLimits : Turn → Type 0
  InLimits t = (t.current < w.house.count) × (t.left ≤ w.house.q)

  standing_turn : (running : List Bool) (t : Turn) → length running ≡ 8 → InLimits t → Standing b (world (with_turn w.house running t) w.memory)
  standing_turn running t l c = record {
    shaped = turn_shaped w.house st.shaped running t l;
    layout = layout_on (booted b).house w.house _ st.layout (changed_layout w.house running t _);
    here = c.0;
    turns = c.1;
    size = st.size;
    most = st.most;
    right = st.right;
  }

  module _ (i : ℕ) (l : i < w.house.count) where
    standing_started : Standing b (world (started w.house i) w.memory)
    unfolding started
    standing_started =
        standing_turn (set w.house.running i true) _ (length-set w.house.running i true ∙ st.shaped.running)
        (either InLimits (eqb w.house.left 0) (λ _. (l, omega arith)) (λ _. (st.here, st.turns)))

    standing_stopped : Standing b (world (stopped w.house i) w.memory)
    unfolding stopped
    standing_stopped =
        let r = set w.house.running i false in
        standing_turn r _ (length-set w.house.running i false ∙ st.shaped.running)
        (either InLimits (not (eqb w.house.left 0) && eqb w.house.current i)
        (λ _. either InLimits (any (λ j. get_or r j false) w.house.count)
        (λ _. (next_below r w.house.count i w.house.count l, omega arith))
        (λ _. (omega arith, omega arith)))
        (λ _. (st.here, st.turns)))

    standing_emptied : Standing b (world (emptied_house w.house i) w.memory)
    unfolding emptied_house
    standing_emptied =
        let small = standing_small w (firm b w st) l in
        let x = world (emptied_house w.house i) w.memory in
        record {
          shaped = emptied_shaped w.house i st.shaped small;
          layout = layout_on (booted b).house w.house _ st.layout (changed_layout w.house _ (turn w.house.current w.house.left) _);
          here = st.here;
          turns = st.turns;
          size = st.size;
          most = st.most;
          right = λ j m. by_eq j i
              (λ e. subst (RightShadow x) (sym e) (fresh_right x i (emptied_own w.house i st.shaped small)))
              (λ d.
              subst (λ (sh : List ℕ). (px : ℕ) → stale (frames_of w.house j) (partition w.house j).pages (partition w.house j).table w.memory px (get_or sh px 0) ≡ false)
              (sym (emptied_other w.house i st.shaped small j (standing_small w (firm b w st) m) d)) (st.right j m));
        }

  standing_done : Done (Standing b) w
  standing_done = record {
    run = λ k _. standing_steps b k w st;
    start = λ i d. standing_started i d.there;
    stop = λ i d. standing_stopped i d.there;
    empty = λ i d. standing_emptied i d.there;
  }

  pub standing_after : (c : Call) → Standing b (after c w)
  standing_after = after_keeps (Standing b) w st standing_done

pub standing : (b : Boot) (w : World) → Grown b w → Standing b w
standing b w g = subst (Standing b) (sym g.1) (history_keeps (Standing b) (standing_done b) g.0 (booted b) (standing_boot b))

-- ---- the steps of a run that is done

pub history_then : (cs ds : List Call) (w : World) → history (cs ++ ds) w ≡ history ds (history cs w)
unfolding history
history_then [] ds w = refl
history_then (c ∷ cs) ds w = history_then cs ds (after c w)

-- a call more
pub grown_after : (b : Boot) (w : World) → Grown b w → (c : Call) → Grown b (after c w)
unfolding history
grown_after b w g c = (g.0 ++ (c ∷ []), ap (after c) g.1 ∙ sym (history_then g.0 (c ∷ []) (booted b)))

module _ (b : Boot) (w : World) (g : Grown b w) (k j : ℕ) (d : RunDone w k) (less : j < k) where
  busy : w.house.left ≡ 0 → ⊥
  busy = d.busy (λ z. omega arith)

  -- a shorter run is done too
  shorter : (run_verdict w j).number ≡ 0
  unfolding run_verdict first_of
  shorter = simp (d.whole, eq-eqb (length w.memory) w.house.words d.size, le-ltb 1000000 j (omega (arith, d.most)), ne_eqb w.house.left 0 busy, and-false)

  pub run_grown : Grown b (host_steps j w)
  unfolding history after run_call
  run_grown =
      let e : (run_call w j).world ≡ host_steps j w = rw (eq-eqb (run_verdict w j).number 0 shorter) in
      subst (Grown b) e (grown_after b w g (run j))

  pub run_busy : (host_steps j w).house.left ≡ 0 → ⊥
  run_busy z = omega (arith, (sound_steps j w (sound w.house d.whole w.memory (standing b w g).shaped d.size busy)).left)
