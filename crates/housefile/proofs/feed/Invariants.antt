use Rattle.std.proofs.Common.{◌≡◌, length, drop}
use Rattle.housefile.specs.Reader.{read, fed}
use Rattle.housefile.proofs.feed.Given as goal

abbrev pub invariant-loop-b : goal.invariant-loop-b
invariant-loop-b l =
    (fed (read l.s l.turns l.pages l.frames l.memory) (drop l.b-index l.piece) ≡ fed (read l.initial.s l.initial.turns l.initial.pages l.initial.frames l.initial.memory) l.piece)
    × (length l.memory ≡ length l.initial.memory)
