use Rattle.decimal.specs.Texts.{ascii}
use Rattle.decimal.proofs.Texts.{exactly, ◌then◌}
use Rattle.drill_text.specs.Lines.{row_of}
use Rattle.drill_text.proofs.lines.rest.Goals as goal

pub returns : goal.returns
unfolding row_of ascii
returns c = c.numbers-told.ensures then exactly c.put_byte.ensures
