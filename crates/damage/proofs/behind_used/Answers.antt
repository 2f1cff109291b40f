use mathlib.Core.Path.{◌∙◌, sym}
use borrow.Author.Tests.{le-ltb}
use Rattle.damage.proofs.Marks.{behind_none, behind_lent}
use Rattle.damage.proofs.behind_used.Goals as goal

pub returns-then-n-l : goal.returns-then-n-l
returns-then-n-l c = c.not_zero.ensures ∙ behind_lent c.args.l.now c.args.n c.if-n-l.true

pub returns-else-n-l : goal.returns-else-n-l
returns-else-n-l c = le-ltb _ _ c.if-n-l.false ∙ sym (behind_none c.args.l.now c.args.n c.if-n-l.false)
