use mathlib.Core.Path.{refl, sym, subst}
use Rattle.report.proofs.Texts.{put_there}
use Rattle.night_run.specs.Ran.{no_frames, either_file, Told}
use Rattle.look.specs.Look.{printed}
use Rattle.look.proofs.look.Goals as goal

pub text_for-x-requires : goal.text_for-x-requires
unfolding no_frames
text_for-x-requires c = refl

pub show-requires : goal.show-requires
show-requires c = let e = c.text_for-x.ensures.by_index in subst (Told either_file printed c.text_for-x.result.taken) (sym (put_there _ _ _ _ e.2)) e.1
