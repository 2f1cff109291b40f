use Rattle.dlx.specs.Machine.{received}
use native.Mathlib.Omega.{arith}
use Rattle.receipt.proofs.receive.Goals as goal

pub take-requires : goal.take-requires
take-requires c = record { queued = c.requires.queued; i_bound = c.requires.i_bound }

pub write-requires : goal.write-requires
write-requires c = omega (arith, c.requires.regs_length)

pub returns-in-Some : goal.returns-in-Some
unfolding received
returns-in-Some c = simp (← c.take.ensures, c.in-Some.is, c.write.ensures)

pub returns-in-None : goal.returns-in-None
unfolding received
returns-in-None c = simp (← c.take.ensures, c.in-None.is)
