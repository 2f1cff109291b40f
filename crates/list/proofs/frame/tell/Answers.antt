use mathlib.Core.Path.{sym, subst}
use Rattle.report.proofs.Texts.{put_there}
use Rattle.night_run.specs.Ran.{either_held, Told}
use Rattle.list.specs.Frame.{frame_text}
use Rattle.list.proofs.frame.tell.Goals as goal

pub show-requires : goal.show-requires
show-requires c = let p = c.requires.told in subst (Told either_held (frame_text c.args.frame) c.args.t) (sym (put_there _ _ _ _ (c.text_of-n.ensures.out_after p.0))) p.1
