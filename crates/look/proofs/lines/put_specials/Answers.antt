use Rattle.decimal.specs.Texts.{ascii}
use Rattle.decimal.proofs.Texts.{◌then◌}
use Rattle.look.specs.Look.{specials_of}
use Rattle.look.proofs.lines.put_specials.Goals as goal

pub returns : goal.returns
unfolding specials_of ascii
returns c =
    c.put_named-first.ensures
    then c.put_named-second.ensures
    then c.put_named-third.ensures
    then c.put_named-fourth.ensures
    then c.put_named-fifth.ensures
    then c.put_named-sixth.ensures
    then c.put_named.ensures
