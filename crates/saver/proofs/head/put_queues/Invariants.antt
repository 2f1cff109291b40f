use Rattle.std.proofs.Common.{◌*◌}
use Rattle.decimal.specs.Texts.{Puts, joined}
use Rattle.saver.specs.Heads.{queue_record}
use Rattle.saver.proofs.head.put_queues.Given as goal

abbrev pub invariant-loop-k : goal.invariant-loop-k
invariant-loop-k l = Puts l.initial.out l.at l.out l.end (joined (queue_record l.tickets l.waiting) l.k) (134 * l.k)
