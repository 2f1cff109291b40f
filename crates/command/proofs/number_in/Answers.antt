use Rattle.std.proofs.Common.{sym, ◌∙◌, subst, Option, IfSome, ℕ, ◌≤◌}
use borrow.Author.Tests.{eqb-true, eqb-false}
use Rattle.command.proofs.Words.{digits_on, digits_done, none_empty, number_some}
use Rattle.command.proofs.number_in.Goals as goal

pub returns-then-is_empty-clause-value : goal.returns-then-is_empty-clause-value
returns-then-is_empty-clause-value c = none_empty _ _ (eqb-true _ 0 (sym c.is_empty.ensures ∙ c.if-is_empty.true))

pub loop-b-preserved : goal.loop-b-preserved
loop-b-preserved c = (digits_on _ _ _ _ c.args.word.now c.loop-b.b-index c.loop-b-test.true c.loop-b.invariant.0 c.with_digit-n.ensures.value, c.with_digit-n.ensures.value_le_most)

pub returns : goal.returns
returns c = record {
  value = number_some _ _ _ (eqb-false _ 0 (sym c.is_empty.ensures ∙ c.if-is_empty.false)) (digits_done _ _ _ c.args.word.now c.loop-b.b-index c.loop-b-test.false c.loop-b.invariant.0);
  value_le_most = c.loop-b.invariant.1;
}
