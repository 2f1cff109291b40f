use Rattle.std.proofs.Common.{◌≡◌, ◌*◌, ◌≤◌}
use Rattle.house.specs.Boot.{offset}
use Rattle.laying.proofs.offset_of.Given as goal

abbrev pub invariant-loop-i : goal.invariant-loop-i
invariant-loop-i l = (l.from ≡ offset l.pages l.i) × (l.from ≤ 256 * l.i)
