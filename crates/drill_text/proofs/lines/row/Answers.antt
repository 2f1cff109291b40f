use Rattle.decimal.proofs.Texts.{exactly, ◌then◌}
use Rattle.drill_text.specs.Lines.{row_of}
use Rattle.drill_text.proofs.lines.row.Goals as goal

pub returns : goal.returns
unfolding row_of
returns c = exactly c.put_text-named.ensures then c.rest.ensures
