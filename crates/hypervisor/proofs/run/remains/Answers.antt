use Rattle.house.specs.Turns.{left_alone}
use Rattle.std.proofs.Common.{◌-◌, mod-lt, arith, le-ltb, lt-ltb}
use Rattle.hypervisor.proofs.run.remains.Goals as goal

pub returns-then-called : goal.returns-then-called
unfolding left_alone
returns-then-called c = simp c.if-called.true

pub returns-then-made-left : goal.returns-then-made-left
unfolding left_alone
returns-then-made-left c = simp (c.if-called.false, lt-ltb _ _ c.if-made-left.true)

pub overflow_sub-result-3 : goal.overflow_sub-result-3
overflow_sub-result-3 c = let h = mod-lt (c.args.made - c.args.left) c.requires in omega (arith, h)

pub returns : goal.returns
unfolding left_alone
returns c = simp (c.if-called.false, le-ltb _ _ c.if-made-left.false)
