use Rattle.decimal.specs.Texts.{ascii}
use Rattle.decimal.proofs.Texts.{exactly, ◌then◌}
use Rattle.drill_text.specs.Partitions.{shadow_of}
use Rattle.drill_text.proofs.partitions.shadow.Goals as goal

pub returns : goal.returns
unfolding shadow_of ascii
returns c = exactly c.put_text-named.ensures then c.entries-told.ensures then exactly c.put_byte.ensures
