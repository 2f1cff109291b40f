use Rattle.std.proofs.Common.{ℕ, ◌*◌, get_or, arith}
use Rattle.dlx.specs.Parts.{inner}
use Rattle.drill_text.specs.Queues.{queue_line_of}
use Rattle.decimal.proofs.Texts.{parts_begin, parts_on, parts_end}
use Rattle.drill_text.proofs.Lent.{lent_part, lent_length}
use Rattle.drill_text.proofs.queues.each.Goals as goal

pub loop-i-init : goal.loop-i-init
loop-i-init c = parts_begin _ 720

pub slice_bounds-queue-end : goal.slice_bounds-queue-end
slice_bounds-queue-end c = omega (arith, c.requires)

pub queue-end-requires : goal.queue-end-requires
queue-end-requires c = lent_length c.loop-i.i 32 c.args.tickets.now (omega (arith, c.requires))

pub loop-i-preserved : goal.loop-i-preserved
loop-i-preserved c =
    let a = c.args in
    parts_on (λ (k : ℕ). queue_line_of k (get_or a.waiting.now k 0) (inner (k * 32) 32 a.tickets.now)) 720 c.loop-i.i c.loop-i.invariant (rw (lent_part c.loop-i.i 32 a.tickets.now) at c.queue-end.ensures)

pub returns : goal.returns
returns c = parts_end _ 720 c.loop-i.i 8 (omega arith) (omega arith) c.loop-i.invariant
