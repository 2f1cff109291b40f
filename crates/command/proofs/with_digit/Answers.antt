use Rattle.std.proofs.Common.{arith, sym, ◌∙◌}
use Rattle.command.proofs.Words.{digit_none, digit_other, digit_over, digit_in}
use Rattle.command.proofs.with_digit.Goals as goal

pub returns-then-not-is_ascii_digit-clause-value : goal.returns-then-not-is_ascii_digit-clause-value
returns-then-not-is_ascii_digit-clause-value c = digit_other _ _ _ (sym c.is_ascii_digit.ensures.value ∙ c.if-not-is_ascii_digit.true)

pub returns-in_err-n-clause-value : goal.returns-in_err-n-clause-value
returns-in_err-n-clause-value c = c.from_residual.ensures ∙ digit_none _ _ _ c.in_err-n.was

pub returns-in_err-checked_mul-clause-value : goal.returns-in_err-checked_mul-clause-value
returns-in_err-checked_mul-clause-value c = c.from_residual-in_err-checked_mul.ensures ∙ digit_over _ _ _ c.in_ok-n.field-0 c.in_ok-n.was (sym c.is_ascii_digit.ensures.value ∙ c.if-not-is_ascii_digit.false) (omega (arith, c.in_err-checked_mul.ensures))

pub returns-in_err-longer-clause-value : goal.returns-in_err-longer-clause-value
returns-in_err-longer-clause-value c = c.from_residual-in_err-longer.ensures ∙ digit_over _ _ _ c.in_ok-n.field-0 c.in_ok-n.was (sym c.is_ascii_digit.ensures.value ∙ c.if-not-is_ascii_digit.false) (omega (arith, c.in_err-longer.ensures, c.in_ok-checked_mul.ensures))

pub returns-then-longer-most-clause-value : goal.returns-then-longer-most-clause-value
returns-then-longer-most-clause-value c = digit_in _ _ _ c.in_ok-n.field-0 _ c.in_ok-n.was (sym c.is_ascii_digit.ensures.value ∙ c.if-not-is_ascii_digit.false) (omega (arith, c.in_ok-longer.ensures, c.in_ok-checked_mul.ensures)) c.if-longer-most.true

pub returns-else-longer-most-clause-value : goal.returns-else-longer-most-clause-value
returns-else-longer-most-clause-value c = digit_over _ _ _ c.in_ok-n.field-0 c.in_ok-n.was (sym c.is_ascii_digit.ensures.value ∙ c.if-not-is_ascii_digit.false) (omega (arith, c.in_ok-longer.ensures, c.in_ok-checked_mul.ensures))
