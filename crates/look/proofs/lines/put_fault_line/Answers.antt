use Rattle.decimal.specs.Texts.{ascii}
use Rattle.decimal.proofs.Texts.{exactly, ◌then◌}
use Rattle.look.specs.Look.{fault_line_of}
use Rattle.look.proofs.lines.put_fault_line.Goals as goal

pub returns : goal.returns
unfolding fault_line_of ascii
returns c = exactly c.put_text-first.ensures then c.put_fault-second.ensures then exactly c.put_byte.ensures
