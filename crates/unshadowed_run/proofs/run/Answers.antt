use Rattle.std.proofs.Common.{sym, refl, ap}
use Rattle.house.specs.Boot.{Verdict}
use Rattle.house.specs.Turns.{world}
use Rattle.house.proofs.Calls.Verdicts.{run_done}
use Rattle.hypervisor.proofs.Refusals.{shaped}
use Rattle.unshadowed_run.proofs.Calls.{steady_run}
use Rattle.unshadowed_run.proofs.run.Goals as goal

pub steps-stepped-requires : goal.steps-stepped-requires
steps-stepped-requires c =
    let a = c.args in
    steady_run a.h a.memory.now a.k (shaped a.h c.well_formed.0) (run_done (world a.h a.memory.now) a.k (ap (λ (v : Verdict). v.number) (sym (c.in_ok-check_run.ensures a.memory.now refl)))) c.if-k-eq0.false
