-- The two engines compared: a theorem for each statement of specs/Promises.antt, in its order.
use mathlib.Core.Path.{◌≡◌, refl, sym, ap, subst, ◌∙◌}
use mathlib.Core.List.{List}
use Prim.Native.Nat.{ℕ}
use borrow.Author.Tests.{eq-eqb, ne_eqb}
use Rattle.dlx.proofs.Tests.{by_eq}
use Rattle.house.specs.House.{with_shadows}
use Rattle.house.specs.Turns.{World, world, host_steps}
use Rattle.house.specs.Sound.{Shaped}
use Rattle.house.specs.Calls.{run_verdict, run_call}
use Rattle.demands.proofs.Histories.Standing.{Firm, firm_step}
use Rattle.staleness.specs.Promises.{Passes}
use Rattle.staleness.proofs.Promises.{passed_done, passed_right, firm_passed}
use Rattle.unshadowed.specs.Turns.{unshadowed_steps, all_empty}
use Rattle.unshadowed_run.specs.Calls.{unshadowed_call}
use Rattle.unshadowed.proofs.Steps.{steps_same}
use Rattle.engines.specs.Promises.{SameVerdicts, RefusedUntouched, DoneEmpty, SameRuns}

-- ---- the verdicts, and what they leave

pub same_verdicts : SameVerdicts
unfolding unshadowed_call run_call
same_verdicts w k = refl

pub refused_untouched : RefusedUntouched
unfolding unshadowed_call
refused_untouched w k n = rw (ne_eqb (run_verdict w k).number 0 n)

done_is : (w : World) (k : ℕ) → (run_verdict w k).number ≡ 0 → (unshadowed_call w k).world ≡ all_empty (unshadowed_steps k w)
unfolding unshadowed_call
done_is w k e = rw (eq-eqb (run_verdict w k).number 0 e)

run_is : (w : World) (k : ℕ) → (run_verdict w k).number ≡ 0 → (run_call w k).world ≡ host_steps k w
unfolding run_call
run_is w k e = rw (eq-eqb (run_verdict w k).number 0 e)

pub run_refused : (w : World) (k : ℕ) → ((run_verdict w k).number ≡ 0 → ⊥) → (run_call w k).world ≡ w
unfolding run_call
run_refused w k n = rw (ne_eqb (run_verdict w k).number 0 n)

pub done_empty : DoneEmpty
unfolding unshadowed_call
done_empty w k e = ap (λ (x : World). x.house.shadows) (done_is w k e)

-- ---- the runs of a house that passes

module _ (w : World) (s : Shaped w.house) (p : Passes w) where
  -- after any number of steps
  pub steps_alike : (n : ℕ) → all_empty (host_steps n w) ≡ all_empty (unshadowed_steps n w)
  steps_alike n =
      (steps_same Firm firm_step (λ x f. f.right x.house.current f.here) n w
      (firm_passed w s (passed_done w p) (passed_right w p))).0

  -- a done run by the second engine is one by the first, with every shadow emptied
  pub done_runs : (k : ℕ) → (run_verdict w k).number ≡ 0 → (unshadowed_call w k).world ≡ all_empty (run_call w k).world
  done_runs k e = done_is w k e ∙ sym (steps_alike k) ∙ ap all_empty (sym (run_is w k e))

  pub refused_runs : (k : ℕ) → ((run_verdict w k).number ≡ 0 → ⊥) → (unshadowed_call w k).world ≡ (run_call w k).world
  unfolding unshadowed_call
  refused_runs k n = refused_untouched w k n ∙ sym (run_refused w k n)

-- the same but for the shadows
but_shadows : (a b : World) (l : List ℕ) → b ≡ world (with_shadows a.house l) a.memory → b ≡ world (with_shadows a.house b.house.shadows) a.memory
but_shadows a b l e = subst (λ (x : World). x ≡ world (with_shadows a.house x.house.shadows) a.memory) (sym e) refl

pub same_runs : SameRuns
same_runs w s p k =
    by_eq (run_verdict w k).number 0
    (λ e. but_shadows (run_call w k).world _ _ (done_runs w s p k e))
    (λ n. but_shadows (run_call w k).world _ (run_call w k).world.house.shadows (refused_runs w s p k n))
