use Rattle.std.proofs.Common.{ℕ, false, get_or, arith}
use Rattle.decimal.proofs.Texts.{parts_begin, parts_on, parts_end}
use Rattle.house.specs.House.{no_partition}
use Rattle.look.specs.Look.{block_of}
use Rattle.look.proofs.lines.put_partitions.Goals as goal

pub loop-i-init : goal.loop-i-init
loop-i-init c = parts_begin _ 2134

pub loop-i-preserved : goal.loop-i-preserved
loop-i-preserved c =
    let a = c.args in
    parts_on (λ (k : ℕ). block_of k (get_or a.running.now k false) (get_or a.parts k no_partition) a.regs.now) 2134 c.loop-i.i c.loop-i.invariant c.put_partition-end.ensures

pub returns : goal.returns
returns c = parts_end _ 2134 c.loop-i.i c.args.n (omega arith) (omega arith) c.loop-i.invariant
