use Rattle.std.proofs.Common.{◌≡◌, refl, zero-le, arith}
use Rattle.house.specs.Boot.{offset}
use Rattle.house.proofs.Boot.Offsets.{offset_more}
use Rattle.laying.proofs.offset_of.Goals as goal

pub loop-i-init : goal.loop-i-init
loop-i-init c = (unfold offset in refl, zero-le)

pub overflow_add-from : goal.overflow_add-from
overflow_add-from c = omega (arith, c.wide-from.ensures, c.pages_of.ensures, c.requires c.loop-i.i)

pub loop-i-preserved : goal.loop-i-preserved
loop-i-preserved c = (omega (arith, c.wide-from.ensures, c.pages_of.ensures, c.loop-i.invariant.0, offset_more c.args.pages.now c.loop-i.i), omega (arith, c.wide-from.ensures, c.pages_of.ensures, c.requires c.loop-i.i))

pub returns : goal.returns
returns c = let e : c.loop-i.i ≡ c.args.owner = omega arith in rw (c.loop-i.invariant.0, e)
