use Rattle.decimal.proofs.Texts.{◌then◌}
use Rattle.drill.specs.Told.{told_of}
use Rattle.drill.proofs.told.call.Goals as goal

pub returns : goal.returns
unfolding told_of
returns c = (rw c.number.ensures at c.call-called.ensures) then c.house-housed.ensures then c.partitions-parted.ensures then c.queues-queued.ensures then c.memory.ensures
