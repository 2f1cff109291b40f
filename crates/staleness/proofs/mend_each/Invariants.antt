use Rattle.std.proofs.Common.{◌≡◌}
use Rattle.house.specs.Turns.{world}
use Rattle.staleness.specs.Audit.{mended_to}
use Rattle.staleness.proofs.mend_each.Given as goal

abbrev pub invariant-loop-i : goal.invariant-loop-i
invariant-loop-i l = world l.r l.memory ≡ mended_to l.i (world l.initial.r l.memory)
