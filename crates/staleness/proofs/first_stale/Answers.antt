use Rattle.std.proofs.Common.{◌≡◌, true, refl, sym, ap, ◌∙◌, arith, le-ltb}
use Rattle.addresses.specs.Walk.{entries}
use Rattle.house.specs.Lists.{any}
use Rattle.house.specs.Turns.{world}
use Rattle.house.proofs.Lists.Bounded.{any_more}
use Rattle.staleness.specs.Audit.{finding, first_page, has_stale}
use Rattle.staleness.proofs.Searching.{first_found, none_found}
use Rattle.staleness.proofs.first_stale.Goals as goal

pub loop-i-init : goal.loop-i-init
unfolding any
loop-i-init c = refl

pub returns-in-Some : goal.returns-in-Some
returns-in-Some c = let a = c.args in let l = c.loop-i in let e = c.in-Some.ensures in
    ap (finding 0 true l.i) (sym e.1) ∙ sym (first_found (world a.h a.memory.now) l.i l.invariant c.loop-i-test.true (omega (arith, e.0, e.1)))

pub loop-i-preserved : goal.loop-i-preserved
loop-i-preserved c = let w = world c.args.h c.args.memory.now in let l = c.loop-i in
    any_more (has_stale w) l.i l.invariant (le-ltb (first_page w l.i) entries (omega (arith, c.in_default.ensures)))

pub returns : goal.returns
returns c = let a = c.args in let l = c.loop-i in let e : l.i ≡ a.h.count = omega arith in
    sym (none_found (world a.h a.memory.now) (rw e at l.invariant))
