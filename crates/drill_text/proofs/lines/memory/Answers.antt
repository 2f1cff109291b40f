use Rattle.decimal.specs.Texts.{ascii}
use Rattle.decimal.proofs.Texts.{exactly, ◌then◌}
use Rattle.drill_text.specs.Lines.{memory_of}
use Rattle.drill_text.proofs.lines.memory.Goals as goal

pub returns : goal.returns
unfolding memory_of ascii
returns c = exactly c.put_text-named.ensures then (rw c.digest-d.ensures at c.pair.ensures)
