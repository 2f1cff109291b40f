use Rattle.std.proofs.Common.{◌*◌, get_or}
use Rattle.dlx.specs.Parts.{inner}
use Rattle.decimal.specs.Texts.{Puts, joined}
use Rattle.addresses.specs.Walk.{entries}
use Rattle.house.specs.House.{no_partition}
use Rattle.drill_text.specs.Partitions.{longest, partition_of}
use Rattle.drill_text.proofs.partitions.each.Given as goal

abbrev pub invariant-loop-i : goal.invariant-loop-i
invariant-loop-i l = Puts l.initial.text l.used l.text l.end (joined (λ k. partition_of k (get_or l.p-items k no_partition) (inner (k * 32) 32 l.registers) (inner (k * 256) 256 l.frames) (inner (k * entries) entries l.shadows)) l.i) (longest * l.i)
