use mathlib.Core.Path.{◌≡◌}
use Prim.Native.Nat.{◌*◌}
use Rattle.house.specs.Boot.{offset, laid}
use Rattle.boot.specs.Places.{filled}
use Rattle.boot.proofs.lay.Given as goal

abbrev pub invariant-loop-i : goal.invariant-loop-i
invariant-loop-i l = (l.places ≡ filled (laid l.pages l.frames) 0 2048 (l.i * 256)) × (l.from ≡ offset l.pages l.i)
