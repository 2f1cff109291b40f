use Rattle.std.proofs.Common.{◌≡◌, length}
use Rattle.laying.specs.Laid.{laid_words, sum_words}
use Rattle.laying.proofs.lay.Given as goal

abbrev pub invariant-loop-k : goal.invariant-loop-k
invariant-loop-k l = (l.memory ≡ laid_words l.frames l.first l.bytes l.initial.memory l.k) × (l.sum ≡ sum_words l.bytes l.k) × (length l.memory ≡ length l.initial.memory)
