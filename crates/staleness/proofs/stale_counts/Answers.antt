use mathlib.Core.Path.{refl}
use Rattle.staleness.proofs.Verdicts.{walks}
use Rattle.staleness.proofs.stale_counts.Goals as goal

pub count_each-requires : goal.count_each-requires
count_each-requires c = walks c.args.h c.args.memory.now c.well_formed.0 (c.in_ok-check.ensures c.args.memory.now 0 refl)
