use Rattle.decimal.proofs.Texts.{◌then◌}
use Rattle.report.specs.Report.{line}
use borrow.Author.Rules.{rules}
use Rattle.audit.proofs.put_count.Goals as goal

pub shape_of-out : goal.shape_of-out
shape_of-out c = search (rules, c.put_word, c.put_word-first)

pub returns : goal.returns
unfolding line
returns c = c.put_word-first.ensures then c.put_word.ensures
