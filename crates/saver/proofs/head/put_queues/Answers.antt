use Rattle.std.proofs.Common.{arith}
use Rattle.decimal.proofs.Texts.{parts_begin, parts_on, parts_end}
use Rattle.saver.specs.Heads.{queue_record}
use Rattle.saver.proofs.head.put_queues.Goals as goal

pub loop-k-init : goal.loop-k-init
loop-k-init c = parts_begin (queue_record c.args.tickets.now c.args.waiting.now) 134

pub loop-k-preserved : goal.loop-k-preserved
loop-k-preserved c = parts_on (queue_record c.args.tickets.now c.args.waiting.now) 134 c.loop-k.k c.loop-k.invariant c.put_queue_at-end.ensures

pub returns : goal.returns
returns c = parts_end (queue_record c.args.tickets.now c.args.waiting.now) 134 c.loop-k.k c.args.count (omega arith) (omega arith) c.loop-k.invariant
