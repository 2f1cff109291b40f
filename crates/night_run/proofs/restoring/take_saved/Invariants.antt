use mathlib.Core.Path.{◌≡◌}
use mathlib.Core.List.{List}
use Prim.Native.Nat.{ℕ}
use lib.ListN.{length}
use Rattle.restore.specs.Standing.{reading_at}
use Rattle.night_run.specs.Ran.{SavedGoing}
use Rattle.night_run.proofs.Pieces.{left}
use Rattle.night_run.proofs.restoring.take_saved.Given as goal

abbrev pub invariant-loop-source : goal.invariant-loop-source
invariant-loop-source l = ((first head : List ℕ) → SavedGoing first head l.initial.taken (reading_at l.initial.restoring.reader l.initial.restoring.house l.initial.held l.initial.memory) → SavedGoing first head l.taken (reading_at l.restoring.reader l.restoring.house l.held l.memory)) × (length l.memory ≡ length l.initial.memory)

abbrev pub decreases-loop-source : goal.decreases-loop-source
decreases-loop-source l = left l.taken
