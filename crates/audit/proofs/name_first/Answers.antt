use mathlib.Core.Path.{sym, subst, ◌∙◌}
use Rattle.report.proofs.Texts.{put_there}
use Rattle.house.specs.Turns.{world}
use Rattle.night_run.specs.Ran.{either_file, Told}
use Rattle.audit.specs.Printed.{named}
use Rattle.audit.proofs.Texts.{named_first}
use Rattle.audit.proofs.name_first.Goals as goal

pub say_first-requires : goal.say_first-requires
say_first-requires c =
    let a = c.args in
    let d = c.in-Ok.done in
    let i = c.in-Ok-Some.ensures in
    let n = rw c.in-Ok-Some.field-0-is at i in
    let t = rw c.in-Ok.is at c.requires.1 in
    subst (Told either_file named a.t) (sym (named_first d.detail (world d.house a.memory.now) c.in-Ok-Some.entry n) ∙ sym (put_there _ _ _ _ c.first_line-n.ensures.value)) t
