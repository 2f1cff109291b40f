use Rattle.std.proofs.Common.{false, ◌*◌, get_or}
use Rattle.decimal.specs.Texts.{Puts, joined}
use Rattle.house.specs.House.{no_partition}
use Rattle.look.specs.Look.{block_of}
use Rattle.look.proofs.lines.put_partitions.Given as goal

abbrev pub invariant-loop-i : goal.invariant-loop-i
invariant-loop-i l = Puts l.initial.out l.at l.out l.end (joined (λ k. block_of k (get_or l.running k false) (get_or l.parts k no_partition) l.regs) l.i) (2134 * l.i)
