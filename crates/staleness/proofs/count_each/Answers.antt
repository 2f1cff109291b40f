use Rattle.std.proofs.Common.{◌≡◌, sym, ◌∙◌, arith, lt-ltb, le-ltb}
use Rattle.house.specs.Turns.{world}
use Rattle.house.proofs.Lists.ByRule.{list_from_replicate}
use Rattle.staleness.specs.Audit.{stale_count, count_at, stale_counts}
use Rattle.staleness.proofs.SoFar.{far_none, far_all, far_set}
use Rattle.staleness.proofs.count_each.Goals as goal

pub loop-i-init : goal.loop-i-init
loop-i-init c = let a = c.args in sym (far_none (count_at (world a.h a.memory.now)) (λ _. 0) 8 ∙ list_from_replicate 0 0 8)

pub loop-i-preserved : goal.loop-i-preserved
loop-i-preserved c = let a = c.args in let l = c.loop-i in let w = world a.h a.memory.now in
    let e : stale_count w l.i ≡ count_at w l.i = rw (lt-ltb l.i a.h.count c.loop-i-test.true) in
    far_set (count_at w) (λ _. 0) 8 l.each l.i _ _ l.invariant (omega (arith, c.loop-i-test.true, c.requires.few)) c.wide.ensures (c.count_of.ensures ∙ e)

pub returns : goal.returns
unfolding stale_counts
returns c = let a = c.args in let l = c.loop-i in let w = world a.h a.memory.now in
    l.invariant ∙ far_all (count_at w) (λ _. 0) 8 l.i (λ k b _. rw (le-ltb k a.h.count (omega (arith, c.loop-i-test.false))))
