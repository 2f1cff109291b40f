use Rattle.std.proofs.Common.{◌≡◌, ◌≤◌, length}
use Rattle.drill.specs.Fit.{Stands}
use Rattle.drill.proofs.reading.settle.Given as goal

abbrev pub invariant-loop : goal.invariant-loop
invariant-loop l = (length l.input ≡ length l.initial.input) × (length l.memory ≡ length l.initial.memory) × Stands l.r (length l.initial.input) l.r.lent × (l.r.lent ≤ length l.initial.memory)
