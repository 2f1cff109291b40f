use Rattle.drill_text.specs.Partitions.{own_of}
use Rattle.drill_text.proofs.partitions.own.Goals as goal

pub returns : goal.returns
unfolding own_of
returns c = rw c.specials-rest.ensures at c.own_line.ensures
