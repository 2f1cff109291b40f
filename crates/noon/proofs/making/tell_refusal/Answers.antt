use mathlib.Core.Path.{ap, ◌∙◌}
use Rattle.report.specs.Report.{refusal}
use Rattle.report.proofs.Texts.{put_there}
use Rattle.noon.proofs.making.tell_refusal.Goals as goal

pub show-requires : goal.show-requires
show-requires c = λ m l. put_there _ _ _ _ c.text_of_refusal-n.ensures.value ∙ ap refusal (c.requires m l)
