use Rattle.std.proofs.Common.{◌*◌, get_or}
use Rattle.dlx.specs.Parts.{inner}
use Rattle.decimal.specs.Texts.{Puts, joined}
use Rattle.drill_text.specs.Queues.{queue_line_of}
use Rattle.drill_text.proofs.queues.each.Given as goal

abbrev pub invariant-loop-i : goal.invariant-loop-i
invariant-loop-i l = Puts l.initial.text l.used l.text l.end (joined (λ k. queue_line_of k (get_or l.waiting k 0) (inner (k * 32) 32 l.tickets)) l.i) (720 * l.i)
