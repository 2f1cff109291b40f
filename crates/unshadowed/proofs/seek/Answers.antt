use Rattle.addresses.proofs.Entries.{placed_listed}
use Rattle.unshadowed.specs.Memory.{sought}
use Rattle.unshadowed.proofs.seek.Goals as goal

-- src/lib.rt:46:9
pub returns-then-user : goal.returns-then-user
unfolding sought
returns-then-user c = simp c.if-user.true c.walk.ensures

-- src/lib.rt:48:5
pub straight-requires : goal.straight-requires
straight-requires c = placed_listed c.requires

-- src/lib.rt:41:1
pub returns : goal.returns
unfolding sought
returns c = simp c.if-user.false c.straight.ensures
