use Rattle.std.proofs.Common.{None, Some, eq-eqb, ◌∙◌, arith}
use Rattle.asked.specs.Words.{row_took}
use Rattle.asked.proofs.Rows.{row_digit}
use Rattle.asked.proofs.words.row_took.Goals as goal

pub returns-then-b-eq44 : goal.returns-then-b-eq44
unfolding row_took
returns-then-b-eq44 c = simp (eq-eqb _ _ c.if-b-eq44.true, c.row_ended.ensures)

pub returns-in_default : goal.returns-in_default
returns-in_default c =
    row_digit c.args.at c.args.r c.args.frames.now c.args.b c.from-so_far.result None c.if-b-eq44.false (c.from-so_far.ensures ∙ c.unwrap_or.ensures) c.in_default.ensures.value

pub overflow_cast-result : goal.overflow_cast-result
overflow_cast-result c = omega (arith, c.in-Some.ensures.value_le_most)

pub returns : goal.returns
returns c =
    row_digit c.args.at c.args.r c.args.frames.now c.args.b c.from-so_far.result (Some c.in-Some.number) c.if-b-eq44.false (c.from-so_far.ensures ∙ c.unwrap_or.ensures) c.in-Some.ensures.value
