use mathlib.Core.Bool.{Bool, false}
use mathlib.Core.Path.{refl, ◌∙◌, sym}
use Prim.Native.Nat.{ℕ}
use native.Mathlib.Omega.{arith}
use lib.ListN.{get_or}
use Rattle.house.specs.Lists.{any}
use Rattle.house.specs.House.{no_partition}
use Rattle.house.specs.declared.House.{House}
use Rattle.house.proofs.Lists.Bounded.{any_more, any_yes}
use Rattle.damage.specs.Marks.{room_wrong}
use Rattle.damage.proofs.unused_wrong.Goals as goal

room : House → ℕ → Bool
room h j = room_wrong h.count j (get_or h.running j false) (get_or h.parts j no_partition) h.regs h.frames h.shadows

pub loop-i-init : goal.loop-i-init
unfolding any
loop-i-init c = refl

pub returns-then-room_wrong : goal.returns-then-room_wrong
unfolding room
returns-then-room_wrong c = sym (any_yes (room c.args.h.now) 8 c.loop-i.i (omega arith) (sym c.room_wrong.ensures ∙ c.if-room_wrong.true))

pub loop-i-preserved : goal.loop-i-preserved
unfolding room
loop-i-preserved c = any_more (room c.args.h.now) c.loop-i.i c.loop-i.invariant (sym c.room_wrong.ensures ∙ c.if-room_wrong.false)
