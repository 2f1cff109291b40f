use Rattle.std.proofs.Common.{◌≡◌, ◌*◌, ◌^◌, ◌≤◌}
use Rattle.house.specs.Boot.{offset}
use Rattle.staleness.proofs.total.Given as goal

abbrev pub invariant-loop-x : goal.invariant-loop-x
invariant-loop-x l = (l.n ≡ offset l.x-items l.x-index) × (l.n ≤ 2 ^ 32 * l.x-index)
