use mathlib.Core.Path.{refl}
use Rattle.staleness.proofs.Verdicts.{walks}
use Rattle.staleness.proofs.audit.Goals as goal

pub first_stale-requires : goal.first_stale-requires
first_stale-requires c = walks c.args.h c.args.memory.now c.well_formed.0 (c.in_ok-check.ensures c.args.memory.now 0 refl)
