use Rattle.std.proofs.Common.{◌-◌, ◌^◌}
use Rattle.house.specs.Turns.{world}
use Rattle.keep.specs.Kept.{Within}
use Rattle.keep.proofs.keep_pieces.Given as goal

abbrev pub invariant-pieces : goal.invariant-pieces
invariant-pieces l = Within (world l.house l.memory) l.w

abbrev pub decreases-pieces : goal.decreases-pieces
decreases-pieces l = 2 ^ 64 - l.w.bytes
