use mathlib.Core.Path.{sym, subst}
use Rattle.report.specs.Printed.{printed}
use Rattle.report.proofs.Texts.{put_there}
use Rattle.night_run.specs.Ran.{house_file, Told}
use Rattle.night.proofs.tell.Goals as goal

pub show-requires : goal.show-requires
show-requires c = let p = c.requires in subst (Told house_file printed c.args.t) (sym (put_there _ _ _ _ (c.text_of_answer-n.ensures.by_index p.0 p.1))) p.2
