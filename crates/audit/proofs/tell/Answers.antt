use mathlib.Core.Path.{sym, subst}
use Rattle.report.proofs.Texts.{put_there}
use Rattle.night_run.specs.Ran.{either_file, Told}
use Rattle.audit.specs.Printed.{printed}
use Rattle.audit.proofs.tell.Goals as goal

pub show-requires : goal.show-requires
show-requires c =
    let p = c.requires.told in
    subst (Told either_file printed c.args.t) (sym (put_there _ _ _ _ (c.text_of-n.ensures.out_after p.0))) p.1

pub name_first-requires : goal.name_first-requires
name_first-requires c = c.requires.named_told
