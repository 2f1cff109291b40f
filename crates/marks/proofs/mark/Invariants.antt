use lib.ListN.{length}
use mathlib.Core.Bool.{false}
use mathlib.Core.Path.{◌≡◌}
use Rattle.house.specs.Lists.{any}
use Rattle.marks.specs.Marked.{marked, twice_marked}
use Rattle.marks.proofs.mark.Given as goal

abbrev pub invariant-loop-k : goal.invariant-loop-k
invariant-loop-k l = (any (twice_marked l.initial.owners l.frames) l.k ≡ false) × (l.owners ≡ marked l.frames l.tag l.initial.owners l.k) × (length l.owners ≡ 1024)
