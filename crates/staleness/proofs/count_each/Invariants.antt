use Rattle.std.proofs.Common.{◌≡◌}
use Rattle.house.specs.Turns.{world}
use Rattle.staleness.specs.Audit.{count_at}
use Rattle.staleness.proofs.SoFar.{so_far}
use Rattle.staleness.proofs.count_each.Given as goal

abbrev pub invariant-loop-i : goal.invariant-loop-i
invariant-loop-i l = l.each ≡ so_far (count_at (world l.h l.memory)) (λ _. 0) 8 l.i
