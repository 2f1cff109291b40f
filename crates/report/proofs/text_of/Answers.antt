use Rattle.report.proofs.Texts.{put_as}
use Rattle.report.proofs.Answers.{text_refused, text_done}
use Rattle.report.proofs.text_of.Goals as goal

pub returns-then-number-ne0 : goal.returns-then-number-ne0
returns-then-number-ne0 c = record { by_index = λ m. put_as _ _ _ _ _ c.refused.ensures.value.0 c.refused.ensures.value.1 (text_refused _ _ _ c.if-number-ne0.true); counts = c.refused.ensures.counts }

pub returns : goal.returns
returns c = record { by_index = λ m. put_as _ _ _ _ _ c.report.ensures.value.0 c.report.ensures.value.1 (text_done _ _ _ c.if-number-ne0.false); counts = c.report.ensures.counts }
