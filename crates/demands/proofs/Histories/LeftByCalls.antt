-- What every call that is done keeps, every call keeps, done or refused, and every history.
use mathlib.Core.List.{List, [], ◌∷◌}
use Prim.Native.Nat.{ℕ}
use borrow.Author.Tests.{eqb-true}
use lib.Dec.{eqb}
use Rattle.dlx.proofs.Kept.{either}
use Rattle.house.specs.Turns.{World, world, host_steps}
use Rattle.house.specs.Calls.{run_verdict, run_call, one_verdict, started, stopped, emptied_house, start_call, stop_call, empty_call, read_call}
use Rattle.demands.specs.Histories.{Call, run, start, stop, empty, read_out, after, history}
use Rattle.house.proofs.Calls.Verdicts.{RunDone, run_done, OneDone, one_done}

-- P holds of what each call on w leaves, where it is done
pub record Done (P : World → Type 0) (w : World) : Type 0 where
  pub run : (k : ℕ) → RunDone w k → P (host_steps k w)
  pub start : (i : ℕ) → OneDone w.house i → P (world (started w.house i) w.memory)
  pub stop : (i : ℕ) → OneDone w.house i → P (world (stopped w.house i) w.memory)
  pub empty : (i : ℕ) → OneDone w.house i → P (world (emptied_house w.house i) w.memory)

module _ (P : World → Type 0) (w : World) (p : P w) (d : Done P w) where
  pub after_keeps : (c : Call) → P (after c w)
  unfolding after run_call start_call stop_call empty_call read_call
  after_keeps (run k) = either P (eqb (run_verdict w k).number 0) (λ e. d.run k (run_done w k (eqb-true _ 0 e))) (λ _. p)
  after_keeps (start i) = either P (eqb (one_verdict w.house i).number 0) (λ e. d.start i (one_done w.house i (eqb-true _ 0 e))) (λ _. p)
  after_keeps (stop i) = either P (eqb (one_verdict w.house i).number 0) (λ e. d.stop i (one_done w.house i (eqb-true _ 0 e))) (λ _. p)
  after_keeps (empty i) = either P (eqb (one_verdict w.house i).number 0) (λ e. d.empty i (one_done w.house i (eqb-true _ 0 e))) (λ _. p)
  after_keeps (read_out i a n out) = p

pub history_keeps : (P : World → Type 0) → ((w : World) → P w → Done P w) → (cs : List Call) (w : World) → P w → P (history cs w)
unfolding history
history_keeps P f [] w p = p
history_keeps P f (c ∷ cs) w p = history_keeps P f cs (after c w) (after_keeps P w p (f w p) c)
