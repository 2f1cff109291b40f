use Rattle.list.proofs.Pieces.{completes_not, completes}
use Rattle.list.proofs.words.put_completed.Goals as goal

pub returns-then-r-ne3 : goal.returns-then-r-ne3
returns-then-r-ne3 c = completes_not c.args.r c.args.b _ c.if-r-ne3.true

pub returns : goal.returns
returns c = completes c.args.r c.args.b _ _ c.if-r-ne3.false c.further-f.ensures c.put_line-line.ensures c.put_byte.ensures
