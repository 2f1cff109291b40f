-- Runs of a house as boot leaves it.
use mathlib.Core.Path.{◌≡◌, refl, sym, ap, ◌∙◌}
use mathlib.Core.Bool.{true, false}
use mathlib.Core.List.{[]}
use Prim.Native.Nat.{ℕ}
use lib.Dec.{ltb}
use Rattle.dlx.proofs.Kept.{either}
use Rattle.dlx.proofs.Tests.{by_eq}
use Rattle.house.specs.Lists.{first_from}
use Rattle.house.specs.Boot.{booted_house}
use Rattle.house.specs.Turns.{World}
use Rattle.house.specs.Calls.{answered, run_verdict, run_call}
use Rattle.demands.specs.Histories.{Boot, booted, history, Grown}
use Rattle.demands.proofs.Booted.FreshHouse.{booted_whole}
use Rattle.demands.proofs.Histories.Grown.{standing}
use Rattle.staleness.specs.Audit.{Finding, has_stale, first_stale}
use Rattle.staleness.specs.Promises.{Passes}
use Rattle.staleness.proofs.Promises.{passes_right}
use Rattle.staleness.proofs.Verdicts.{AuditDone, done_audit, audit_found, found_plain}
use Rattle.unshadowed.specs.Turns.{all_empty}
use Rattle.unshadowed_run.specs.Calls.{unshadowed_call, run_by}
use Rattle.engines.specs.Promises.{emptied_by, BootedRuns}
use Rattle.engines.proofs.Promises.{run_refused, done_runs, refused_runs}

module _ (b : Boot) where
  grown : Grown b (booted b)
  unfolding history
  grown = ([], refl)

  whole : AuditDone (booted b)
  unfolding booted_house
  whole = record { whole = booted_whole b; size = refl }

  -- whatever the memory's words
  booted_passes : Passes (booted b)
  booted_passes =
      passes_right (booted b)
      (ap (λ (f : Finding). f.number) (audit_found (booted b) _ refl (done_audit (booted b) 0 whole)) ∙ found_plain (booted b))
      (λ i px l. (standing b (booted b) grown).right i l px)

  -- its shadows are empty already
  still_empty : all_empty (booted b) ≡ booted b
  unfolding booted_house
  still_empty = refl

  emptied_run : (k : ℕ) → (unshadowed_call (booted b) k).world ≡ all_empty (run_call (booted b) k).world
  emptied_run k =
      let s = (standing b (booted b) grown).shaped in
      by_eq (run_verdict (booted b) k).number 0
      (λ e. done_runs (booted b) s booted_passes k e)
      (λ n. refused_runs (booted b) s booted_passes k n ∙ sym (ap all_empty (run_refused (booted b) k n) ∙ still_empty ∙ sym (run_refused (booted b) k n)))

pub booted_runs : BootedRuns
unfolding run_by emptied_by unshadowed_call run_call
booted_runs true b k = ap (answered (run_verdict (booted b) k)) (emptied_run b k)
booted_runs false b k = refl
