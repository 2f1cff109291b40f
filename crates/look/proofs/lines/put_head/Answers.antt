use Rattle.decimal.specs.Texts.{ascii}
use Rattle.decimal.proofs.Texts.{exactly, ◌then◌}
use Rattle.look.specs.Look.{head_of}
use Rattle.look.proofs.lines.put_head.Goals as goal

pub returns : goal.returns
unfolding head_of ascii
returns c =
    c.put_named-first.ensures
    then c.put_state-second.ensures
    then c.put_mode-third.ensures
    then c.put_named-fourth.ensures
    then c.put_named-fifth.ensures
    then exactly c.put_byte.ensures
