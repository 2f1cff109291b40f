use Rattle.decimal.specs.Texts.{ascii}
use Rattle.decimal.proofs.Texts.{exactly, ◌then◌}
use Rattle.look.specs.Look.{block_of}
use Rattle.look.proofs.lines.put_partition.Goals as goal

pub put_registers-sixth-requires : goal.put_registers-sixth-requires
put_registers-sixth-requires c = c.requires

pub returns : goal.returns
unfolding block_of ascii
returns c =
    c.put_head-first.ensures
    then c.put_interrupt-second.ensures
    then c.put_fault_line-third.ensures
    then c.put_saved-fourth.ensures
    then c.put_specials-fifth.ensures
    then c.put_registers-sixth.ensures
    then exactly c.put_byte.ensures
