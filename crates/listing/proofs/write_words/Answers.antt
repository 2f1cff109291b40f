use Rattle.lines.specs.Lines.{candidate}
use Rattle.lines.specs.Listings.{lines_of}
use Rattle.listing.proofs.Passes.{over_count, words_on, words_done, words_all}
use Rattle.listing.proofs.write_words.Goals as goal

pub loop-line-preserved : goal.loop-line-preserved
loop-line-preserved c =
    let f = c.in-Some.ensures.0 in
    (words_on _ _ _ f c.loop-line.out c.loop-line.n c.candidate.ensures c.loop-line.invariant.0, over_count (lines_of c.args.text.now) c.loop-line.n _ _ _ f c.loop-line.invariant.1)

pub returns : goal.returns
returns c = words_all candidate (lines_of c.args.text.now) c.args.out.now c.requires (words_done _ c.loop-line.out c.loop-line.n c.in_default.ensures c.loop-line.invariant.0)
