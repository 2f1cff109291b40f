use mathlib.Core.Path.{◌≡◌}
use lib.ListN.{length}
use Rattle.house.specs.Turns.{world}
use Rattle.resume.proofs.Laws.{on}
use Rattle.resume.proofs.runs.run_on.Given as goal

abbrev pub invariant-loop-left : goal.invariant-loop-left
invariant-loop-left l = (on (world l.house l.memory) l.left ≡ on (world l.initial.house l.initial.memory) l.initial.left) × (length l.memory ≡ length l.initial.memory)

abbrev pub decreases-loop-left : goal.decreases-loop-left
decreases-loop-left l = l.left
