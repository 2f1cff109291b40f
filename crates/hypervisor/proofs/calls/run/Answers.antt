use Rattle.std.proofs.Common.{sym, refl, ap}
use Rattle.house.specs.Boot.{Verdict}
use Rattle.house.specs.Turns.{world}
use Rattle.house.proofs.Damage.Undamaged.{sound}
use Rattle.house.proofs.Calls.Verdicts.{run_done}
use Rattle.hypervisor.proofs.Refusals.{shaped}
use Rattle.hypervisor.proofs.calls.run.Goals as goal

pub steps-house-requires : goal.steps-house-requires
steps-house-requires c =
    let a = c.args in
    let d = run_done (world a.h a.memory.now) a.k (ap (λ (v : Verdict). v.number) (sym (c.in_ok-check_run.ensures a.memory.now refl))) in
    sound a.h d.whole a.memory.now (shaped a.h c.well_formed.0) d.size (d.busy c.if-k-eq0.false)
