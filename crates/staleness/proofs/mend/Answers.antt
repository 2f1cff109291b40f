use mathlib.Core.Path.{refl}
use Rattle.staleness.proofs.Verdicts.{walks}
use Rattle.staleness.proofs.mend.Goals as goal

pub count_each-requires : goal.count_each-requires
count_each-requires c = walks c.args.h c.args.memory.now c.well_formed.0 (c.in_ok-check.ensures c.args.memory.now 0 refl)

pub mend_each-house-requires : goal.mend_each-house-requires
mend_each-house-requires c = walks c.args.h c.args.memory.now c.well_formed.0 (c.in_ok-check.ensures c.args.memory.now 0 refl)
