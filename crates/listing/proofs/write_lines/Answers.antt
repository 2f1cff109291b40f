use Rattle.std.proofs.Common.{arith}
use Rattle.listing.proofs.Passes.{listing_on, listing_done}
use Rattle.listing.proofs.write_lines.Goals as goal

pub loop-w-preserved : goal.loop-w-preserved
loop-w-preserved c = listing_on c.args.words.now c.loop-w.w-index (omega arith) c.loop-w.out c.loop-w.end c.loop-w.invariant c.put_line-line.ensures c.put_byte-end.ensures

pub returns : goal.returns
returns c = listing_done c.args.words.now c.loop-w.w-index (omega arith) c.loop-w.out c.loop-w.end c.loop-w.invariant
