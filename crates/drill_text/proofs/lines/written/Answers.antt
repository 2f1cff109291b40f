use Rattle.decimal.specs.Texts.{ascii}
use Rattle.decimal.proofs.Texts.{exactly, ◌then◌}
use Rattle.drill_text.specs.Lines.{written_of}
use Rattle.drill_text.proofs.lines.written.Goals as goal

pub returns : goal.returns
unfolding written_of ascii
returns c = exactly c.put_text-named.ensures then (rw c.digest_bytes-d.ensures at c.pair.ensures)
