use mathlib.Core.Path.{refl, ◌∙◌, sym}
use native.Mathlib.Omega.{arith}
use Rattle.house.specs.Lists.{any}
use Rattle.house.proofs.Lists.Bounded.{any_more, any_yes}
use Rattle.damage.specs.Marks.{queue_at}
use Rattle.damage.proofs.Marks.{queue_here}
use Rattle.damage.proofs.queues_wrong.Goals as goal

pub loop-j-init : goal.loop-j-init
unfolding any
loop-j-init c = refl

pub returns-then-queue_wrong : goal.returns-then-queue_wrong
returns-then-queue_wrong c =
    let h = c.args.h.now in
    let here = queue_here h.count c.loop-j.j h.tickets h.waiting _ c.queue_wrong.ensures in
    sym (any_yes (queue_at h.count h.tickets h.waiting) 8 c.loop-j.j (omega arith) (sym here ∙ c.if-queue_wrong.true))

pub loop-j-preserved : goal.loop-j-preserved
loop-j-preserved c =
    let h = c.args.h.now in
    let here = queue_here h.count c.loop-j.j h.tickets h.waiting _ c.queue_wrong.ensures in
    any_more (queue_at h.count h.tickets h.waiting) c.loop-j.j c.loop-j.invariant (sym here ∙ c.if-queue_wrong.false)
