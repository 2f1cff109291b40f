use mathlib.Core.Path.{◌≡◌}
use Prim.Native.Nat.{◌*◌}
use lib.ListN.{length}
use Rattle.decimal.specs.Texts.{Puts, joined}
use Rattle.contents.specs.Contents.{frame_record}
use Rattle.contents.proofs.put_frames.Given as goal

abbrev pub invariant-loop-f : goal.invariant-loop-f
invariant-loop-f l = Puts l.initial.out l.at l.out l.end (joined (frame_record l.memory) l.f) (4106 * l.f) × (length l.out ≡ length l.initial.out)
