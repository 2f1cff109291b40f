use Rattle.std.proofs.Common.{get_or-drop}
use Rattle.save.specs.Reading.{guest_of}
use Rattle.restore.proofs.records.guest_of.Goals as goal

-- src/records.rt:68:1
pub returns : goal.returns
unfolding guest_of
returns c = simp (c.counter_of-counter.ensures, get_or-drop)
