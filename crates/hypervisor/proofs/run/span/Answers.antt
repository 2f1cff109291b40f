use Rattle.house.specs.Turns.{span_of}
use Rattle.hypervisor.proofs.run.span.Goals as goal

pub returns-then-alone : goal.returns-then-alone
unfolding span_of
returns-then-alone c = simp c.if-alone.true

pub returns : goal.returns
unfolding span_of
returns c = simp (c.if-alone.false, c.limit.ensures)
