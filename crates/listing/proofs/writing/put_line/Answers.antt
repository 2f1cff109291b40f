use Rattle.decimal.specs.Texts.{text}
use Rattle.listing.proofs.Pieces.{line_is}
use Rattle.listing.proofs.writing.put_line.Goals as goal

pub returns : goal.returns
returns c = line_is c.args.w c.row_of-row.ensures (text c.args.out.now c.args.at) c.put_text-name.ensures c.put_operand-first.ensures c.put_operand-second.ensures c.put_operand.ensures
