use Rattle.std.proofs.Common.{refl, arith}
use Rattle.drill.proofs.reading.first.Goals as goal

pub settle-requires : goal.settle-requires
settle-requires c = record { stands = record { inside = omega arith; held = omega arith; sized = tt; lends = refl }; memory_room = omega arith }

pub returns : goal.returns
returns c = c.settle.ensures
