use mathlib.Core.Path.{◌≡◌}
use lib.ListN.{length}
use Rattle.noon.specs.Noon.{Laid}
use Rattle.noon.proofs.images.lay_all.Given as goal

abbrev pub invariant-loop-k : goal.invariant-loop-k
invariant-loop-k l = Laid l.pages l.frames l.table l.counts l.sums l.memory l.k × (length l.counts ≡ length l.initial.counts) × (length l.sums ≡ length l.initial.sums) × (length l.memory ≡ length l.initial.memory)
