use Rattle.decimal.specs.Texts.{ascii}
use Rattle.decimal.proofs.Texts.{exactly, ◌then◌}
use Rattle.drill_text.proofs.lines.pair.Goals as goal

pub returns : goal.returns
unfolding ascii
returns c = c.number-one.ensures then c.number-two.ensures then exactly c.put_byte.ensures
