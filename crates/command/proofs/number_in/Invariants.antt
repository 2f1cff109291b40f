use mathlib.Core.Path.{◌≡◌}
use Rattle.std.proofs.Common.{Some, IfSome, ◌≤◌}
use lib.ListN.{drop}
use Rattle.command.specs.Words.{with_digits}
use Rattle.command.proofs.number_in.Given as goal

abbrev pub invariant-loop-b : goal.invariant-loop-b
invariant-loop-b l = (with_digits l.most l.n (drop l.b-index l.word) ≡ with_digits l.most (Some 0) l.word) × IfSome l.n (λ v. v ≤ l.most)
