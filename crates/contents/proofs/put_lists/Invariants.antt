use mathlib.Core.Path.{◌≡◌}
use Prim.Native.Nat.{◌*◌}
use lib.ListN.{length}
use Rattle.decimal.specs.Texts.{Puts, joined}
use Rattle.house.specs.Boot.{offset}
use Rattle.contents.specs.Contents.{list_record}
use Rattle.contents.proofs.put_lists.Given as goal

abbrev pub invariant-loop-count : goal.invariant-loop-count
invariant-loop-count l = Puts l.initial.out l.at l.out l.end (joined (list_record l.pages l.frames) l.count-index) (1030 * l.count-index) × (l.from ≡ offset l.pages l.count-index) × (length l.out ≡ length l.initial.out)
