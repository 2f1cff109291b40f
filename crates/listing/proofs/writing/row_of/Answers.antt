use Rattle.std.proofs.Common.{sym}
use Rattle.decimal.specs.Texts.{ascii}
use Rattle.lines.specs.Table.{unnamed}
use Rattle.listing.proofs.Pieces.{place_named, place_unnamed}
use Rattle.listing.proofs.writing.row_of.Goals as goal

pub returns-then-fits : goal.returns-then-fits
returns-then-fits c = place_named c.args.w c.row_coded-row.ensures c.code_in.ensures (sym c.if-fits.ensures)

pub returns : goal.returns
unfolding unnamed ascii
returns c = place_unnamed c.args.w c.row_coded-row.ensures c.code_in.ensures (sym c.if-fits.ensures)
