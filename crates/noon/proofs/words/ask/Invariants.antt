use Rattle.noon.specs.Noon.{Asks}
use Rattle.noon.proofs.words.ask.Given as goal

abbrev pub invariant-loop-i : goal.invariant-loop-i
invariant-loop-i l = Asks l.a l.pages l.frames l.table l.i
