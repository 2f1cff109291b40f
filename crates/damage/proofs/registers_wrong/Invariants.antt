use mathlib.Core.Bool.{false}
use mathlib.Core.Path.{◌≡◌}
use Rattle.house.specs.Lists.{any}
use Rattle.damage.specs.Marks.{registers_at}
use Rattle.damage.proofs.registers_wrong.Given as goal

abbrev pub invariant-loop-i : goal.invariant-loop-i
invariant-loop-i l = any (registers_at l.h.parts l.h.regs) l.i ≡ false
