use Rattle.addresses.proofs.Entries.{placed_listed}
use Rattle.addresses.specs.Memory.{served}
use Rattle.translate.proofs.serve.Goals as goal

pub returns-then-user : goal.returns-then-user
unfolding served
returns-then-user c = simp c.if-user.true c.look.ensures

pub straight-requires : goal.straight-requires
straight-requires c = placed_listed c.requires.placed

pub returns : goal.returns
unfolding served
returns c = simp (c.straight.ensures, c.if-user.false)
