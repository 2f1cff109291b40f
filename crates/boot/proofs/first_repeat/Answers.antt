use mathlib.Core.Path.{◌∙◌}
use lib.ListN.{length, replicate}
use Rattle.marks.specs.Marked.{twice_marked}
use Rattle.marks.proofs.Marked.{first_unowned}
use Rattle.boot.proofs.Places.{first_or}
use Rattle.boot.proofs.first_repeat.Goals as goal

pub returns : goal.returns
returns c =
    let s = c.args.frames.now in
    let e = first_or (twice_marked (replicate 1024 0) s) (length s) c.mark.result c.mark.ensures.twice in
    c.unwrap_or.ensures ∙ e ∙ first_unowned s 1024 (length s)
