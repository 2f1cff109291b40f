use Rattle.decimal.specs.Texts.{ascii}
use Rattle.decimal.proofs.Texts.{exactly, ◌then◌}
use Rattle.look.specs.Look.{turn_of}
use Rattle.look.proofs.lines.put_turn.Goals as goal

pub returns : goal.returns
unfolding turn_of ascii
returns c =
    c.put_named-first.ensures
    then c.put_named-second.ensures
    then c.put_named-third.ensures
    then c.put_named-fourth.ensures
    then exactly c.put_byte.ensures
