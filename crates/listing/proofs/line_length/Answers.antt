use mathlib.Core.Path.{refl}
use Rattle.listing.proofs.Pieces.{line_in}
use Rattle.listing.proofs.line_length.Goals as goal

pub returns : goal.returns
returns c = (line_in _ _ _ _ refl c.put_line.ensures).0
