use Rattle.std.proofs.Common.{arith, sym}
use Rattle.lines.specs.Listings.{lines_of}
use Rattle.listing.proofs.Passes.{over_on, over_count, over_wrong, over_done, over_all}
use Rattle.listing.proofs.look_over.Goals as goal

pub returns-then-not-right : goal.returns-then-not-right
returns-then-not-right c = (over_wrong (lines_of c.args.text.now) c.loop-line.n _ _ _ c.in-Some.ensures.0 (sym c.if-not-right.ensures) c.loop-line.invariant.0, omega arith)

pub loop-line-preserved : goal.loop-line-preserved
loop-line-preserved c =
    let ls = lines_of c.args.text.now in
    let f = c.in-Some.ensures.0 in
    (over_on ls c.loop-line.n _ _ _ f (sym c.if-not-right.ensures) c.loop-line.invariant.0, over_count ls c.loop-line.n _ _ _ f c.loop-line.invariant.1, omega (arith, c.in-Some.ensures.1))

pub returns : goal.returns
returns c = let ls = lines_of c.args.text.now in (over_done ls c.loop-line.n _ c.in_default.ensures c.loop-line.invariant.0, over_all ls c.loop-line.n _ c.in_default.ensures c.loop-line.invariant.1)
