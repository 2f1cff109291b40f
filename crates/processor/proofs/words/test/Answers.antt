use Rattle.dlx.proofs.Signed.{kept}
use Rattle.processor.proofs.words.test.Goals as goal

pub returns : goal.returns
returns c =
    simp (c.compare.ensures, kept c.reading-2.ensures c.reading-2.type_inv, kept c.reading.ensures c.reading.type_inv)
