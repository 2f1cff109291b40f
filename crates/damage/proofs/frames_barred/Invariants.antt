use mathlib.Core.Bool.{false}
use mathlib.Core.Path.{◌≡◌}
use Prim.Native.Nat.{◌/◌}
use Rattle.house.specs.Lists.{any}
use Rattle.damage.specs.Marks.{frames_barred}
use Rattle.damage.proofs.frames_barred.Given as goal

abbrev pub invariant-loop-i : goal.invariant-loop-i
invariant-loop-i l = any (frames_barred l.h.parts l.h.frames (l.h.words / 1024)) l.i ≡ false
