use mathlib.Core.Path.{sym, ◌∙◌}
use Rattle.decimal.specs.Texts.{ascii}
use Rattle.command.specs.Words.{asks_help}
use Rattle.command.proofs.Words.{either_yes, either_no}
use Rattle.command.proofs.asks_help.Goals as goal

pub returns-then-is : goal.returns-then-is
unfolding asks_help ascii
returns-then-is c = c.if-is.true ∙ either_yes _ (sym c.is.ensures ∙ c.if-is.true)

pub returns-else-is : goal.returns-else-is
unfolding asks_help ascii
returns-else-is c = either_no (sym c.is.ensures ∙ c.if-is.false) c.is-else-is.ensures
