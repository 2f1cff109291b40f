use Rattle.std.proofs.Common.{◌≡◌, ◌^◌, ◌<◌, get_or, refl, sym, ap, ◌∙◌, length, zero-le, arith, rules}
use Rattle.house.specs.Boot.{offset}
use Rattle.house.proofs.Boot.Offsets.{offset_more, offset_sum}
use Rattle.staleness.proofs.total.Goals as goal

pub loop-x-init : goal.loop-x-init
unfolding offset
loop-x-init c = (refl, zero-le)

pub overflow_add-n : goal.overflow_add-n
overflow_add-n c = let t = c.type_inv.x-items in let b : get_or c.args.each c.loop-x.x-index 0 < 2 ^ 32 = search (rules, t) in omega (arith, c.from-n.ensures, b, c.loop-x.invariant.1, c.loop-x-test.true)

pub loop-x-preserved : goal.loop-x-preserved
loop-x-preserved c = let l = c.loop-x in let t = c.type_inv.x-items in let b : get_or c.args.each l.x-index 0 < 2 ^ 32 = search (rules, t) in
    (omega (arith, c.from-n.ensures, l.invariant.0, offset_more c.args.each l.x-index), omega (arith, c.from-n.ensures, b, l.invariant.1))

pub returns : goal.returns
returns c = let a = c.args.each in let l = c.loop-x in let n : length a ≡ 8 = search rules in let e : l.x-index ≡ 8 = omega arith in
    l.invariant.0 ∙ ap (offset a) (e ∙ sym n) ∙ offset_sum a
