use Rattle.engine.proofs.Leads.{filled}
use Rattle.std.proofs.Common.{arith, length-set}
use Rattle.engine.proofs.fill.Goals as goal

pub bounds-s-4 : goal.bounds-s-4
bounds-s-4 c = simp length-set (omega (arith, c.requires))

pub bounds-s-5 : goal.bounds-s-5
bounds-s-5 c = simp length-set (omega (arith, c.requires))

pub bounds-s-6 : goal.bounds-s-6
bounds-s-6 c = simp length-set (omega (arith, c.requires))

pub bounds-s-7 : goal.bounds-s-7
bounds-s-7 c = simp length-set (omega (arith, c.requires))

pub bounds-s-8 : goal.bounds-s-8
bounds-s-8 c = simp length-set (omega (arith, c.requires))

pub bounds-s-9 : goal.bounds-s-9
bounds-s-9 c = simp length-set (omega (arith, c.requires))

pub bounds-s-10 : goal.bounds-s-10
bounds-s-10 c = simp length-set (omega (arith, c.requires))

pub bounds-s-11 : goal.bounds-s-11
bounds-s-11 c = simp length-set (omega (arith, c.requires))

pub bounds-s-12 : goal.bounds-s-12
bounds-s-12 c = simp length-set (omega (arith, c.requires))

pub bounds-s-13 : goal.bounds-s-13
bounds-s-13 c = simp length-set (omega (arith, c.requires))

pub returns : goal.returns
returns c = filled c.args.s.now c.args.p c.args.t c.args.k c.requires
