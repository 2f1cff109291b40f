use Rattle.std.proofs.Common.{◌≡◌, false}
use Rattle.house.specs.Lists.{any}
use Rattle.house.specs.Turns.{world}
use Rattle.staleness.specs.Audit.{has_stale}
use Rattle.staleness.proofs.first_stale.Given as goal

abbrev pub invariant-loop-i : goal.invariant-loop-i
invariant-loop-i l = any (has_stale (world l.h l.memory)) l.i ≡ false
