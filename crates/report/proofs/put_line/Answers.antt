use Rattle.decimal.proofs.Texts.{◌then◌}
use Rattle.report.specs.Report.{line}
use Rattle.report.proofs.put_line.Goals as goal

pub returns : goal.returns
unfolding line
returns c =
    c.put_word-first.ensures
    then c.put_word-second.ensures
    then c.put_field-third.ensures
    then c.put_word-fourth.ensures
    then c.put_word-fifth.ensures
    then c.put_word-sixth.ensures
    then c.put_word.ensures
