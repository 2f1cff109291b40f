use Rattle.std.proofs.Common.{◌≡◌, length}
use Rattle.drill.specs.Goes.{Goes}
use Rattle.drill.proofs.play.Given as goal

abbrev pub invariant-loop : goal.invariant-loop
invariant-loop l = Goes l.s (length l.initial.input) (length l.initial.memory) × (length l.input ≡ length l.initial.input) × (length l.memory ≡ length l.initial.memory)
