use Rattle.std.proofs.Common.{◌≡◌, ℕ, refl, ap, ◌∙◌, add-one, arith}
use Rattle.house.specs.Turns.{World, world}
use Rattle.staleness.specs.Audit.{mended_one, mended_to, mended}
use Rattle.staleness.proofs.Mending.{mended_placed}
use Rattle.staleness.proofs.mend_each.Goals as goal

pub loop-i-init : goal.loop-i-init
unfolding mended_to
loop-i-init c = refl

pub mend_of-r-requires-clause-placed : goal.mend_of-r-requires-clause-placed
mend_of-r-requires-clause-placed c = let a = c.args in let l = c.loop-i in mended_placed l.i l.i _ (world a.h a.memory.now) l.r a.memory.now l.invariant (c.requires.each l.i c.loop-i-test.true)

pub loop-i-preserved : goal.loop-i-preserved
unfolding mended_to
loop-i-preserved c = let l = c.loop-i in c.mend_of-r.ensures ∙ ap (λ (x : World). mended_one x l.i) l.invariant ∙ rw (add-one l.i) refl

pub returns : goal.returns
unfolding mended
returns c = let a = c.args in let l = c.loop-i in let e : l.i ≡ a.h.count = omega arith in
    l.invariant ∙ ap (λ (k : ℕ). mended_to k (world a.h a.memory.now)) e
