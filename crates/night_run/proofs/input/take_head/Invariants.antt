use Rattle.night_run.proofs.Pieces.{Heads, left}
use Rattle.night_run.proofs.input.take_head.Given as goal

abbrev pub invariant-loop-source : goal.invariant-loop-source
invariant-loop-source l = Heads l.t l.head

abbrev pub decreases-loop-source : goal.decreases-loop-source
decreases-loop-source l = left l.t
