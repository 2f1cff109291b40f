use Rattle.std.proofs.Common.{◌≡◌, ◌++◌, take, drop}
use Rattle.saver.specs.Heads.{tail_of}
use Rattle.saver.proofs.piece.put_piece.Given as goal

abbrev pub invariant-loop-i : goal.invariant-loop-i
invariant-loop-i l = l.b-items ≡ take l.i (drop l.at (take l.n l.head ++ tail_of l.memory l.frames)) ++ drop l.i l.initial.b-items
