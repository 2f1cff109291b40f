use Rattle.std.proofs.Common.{drop, arith, length-drop, length-take-le}
use native.Mathlib.Nat.{add-sub_cancel_left}
use Rattle.dlx.specs.Parts.{outer}
use Rattle.restore.proofs.records.put_part.Goals as goal

-- src/records.rt:52:1
pub returns : goal.returns
unfolding outer
returns c = let a = c.args in simp (c.pad.ensures, add-sub_cancel_left, length-take-le a.s (drop a.b a.list.now) (omega (arith, length-drop a.b a.list.now, c.requires.list_room)))
