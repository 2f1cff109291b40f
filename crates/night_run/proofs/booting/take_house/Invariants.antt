use mathlib.Core.Path.{◌≡◌}
use mathlib.Core.List.{List}
use Prim.Native.Nat.{ℕ}
use lib.ListN.{length}
use Rattle.housefile.specs.Reader.{read}
use Rattle.night_run.specs.Ran.{HouseGoing}
use Rattle.night_run.proofs.Pieces.{left}
use Rattle.night_run.proofs.booting.take_house.Given as goal

abbrev pub invariant-loop-source : goal.invariant-loop-source
invariant-loop-source l = ((head : List ℕ) → HouseGoing head l.initial.taken (read l.initial.reader l.initial.turns l.initial.pages l.initial.frames l.initial.memory) → HouseGoing head l.taken (read l.reader l.turns l.pages l.frames l.memory)) × (length l.memory ≡ length l.initial.memory)

abbrev pub decreases-loop-source : goal.decreases-loop-source
decreases-loop-source l = left l.taken
