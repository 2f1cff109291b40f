use mathlib.Core.Path.{refl}
use Rattle.house.proofs.Refusals.{not_0}
use Rattle.report.specs.Printed.{printed}
use Rattle.report.proofs.Texts.{put_as}
use Rattle.report.proofs.text_of_answer.Goals as goal

pub returns-in-Ok-clause-by_index : goal.returns-in-Ok-clause-by_index
unfolding printed
returns-in-Ok-clause-by_index c given m = let v = c.report.ensures.value in rw c.in-Ok.is (put_as _ _ _ _ _ v.0 v.1 refl)

pub returns-in-Err-clause-by_index : goal.returns-in-Err-clause-by_index
unfolding printed
returns-in-Err-clause-by_index c given m = rw (c.in-Err.is, not_0 c.in-Err.refusal) c.text_of_refusal.ensures.value
