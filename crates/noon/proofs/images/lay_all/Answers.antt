use mathlib.Core.Path.{◌≡◌, refl}
use mathlib.Core.Bool.{false≢true}
use native.Mathlib.Omega.{arith}
use borrow.Author.Rules.{rules}
use Rattle.noon.proofs.Steps.{laid_on, laid_none}
use Rattle.noon.proofs.images.lay_all.Goals as goal

-- src/images.rt:134:5
pub loop-k-init : goal.loop-k-init
loop-k-init c = (laid_none _ _ _ _ _ _ c.requires.memory_zeros, refl, refl, refl)

-- src/images.rt:135:13
pub lay_next-requires : goal.lay_next-requires
lay_next-requires c = let p = c.requires in record { listed = p.listed; k_bound = omega (arith, p.images_bound); table_length = p.table_length; counts_length = omega (arith, c.loop-k.invariant.1, p.lengths.0) }

-- src/images.rt:136:13
pub returns-then-not-lay_next : goal.returns-then-not-lay_next
returns-then-not-lay_next c = λ e. absurd (false≢true e)

-- src/images.rt:134:5
pub loop-k-preserved : goal.loop-k-preserved
loop-k-preserved c = let a = c.args in let p = c.requires in let l = c.loop-k in (laid_on a.pages.now a.frames.now a.table.now l.counts l.sums l.memory _ _ _ l.k l.invariant.0 (c.lay_next.ensures c.if-not-lay_next.false) (omega (arith, c.loop-k-test.true, l.invariant.1, p.images_bound, p.lengths.0)) (omega (arith, c.loop-k-test.true, l.invariant.2, p.images_bound, p.lengths.1)), search rules, search rules, search rules)

-- src/images.rt:121:1
pub returns : goal.returns
returns c = λ e. let z : c.loop-k.k ≡ c.args.images = omega arith in rw (← z) c.loop-k.invariant.0
