use mathlib.Core.Path.{sym, subst, ◌∙◌}
use Rattle.readout.specs.Printed.{printed}
use Rattle.report.proofs.Texts.{put_there}
use Rattle.night_run.specs.Ran.{either_file, Told}
use Rattle.readout.proofs.Texts.{text_shown}
use Rattle.readout.proofs.tell_refusal.Goals as goal

pub say-requires : goal.say-requires
say-requires c = c.requires.refusal_told

pub show_refusal-requires : goal.show_refusal-requires
show_refusal-requires c = let a = c.args in subst (Told either_file (printed a.w) a.t) (text_shown a.w _ (sym c.is_raw.ensures ∙ c.if-is_raw.false) ∙ sym (put_there _ _ _ _ c.text_of_refusal-n.ensures.value)) c.requires.told
