use mathlib.Core.Path.{◌∙◌, ap}
use native.Mathlib.Omega.{arith}
use borrow.Author.Tests.{lt-ltb}
use Rattle.house.specs.Lists.{any}
use Rattle.damage.specs.Marks.{part_at, behind}
use Rattle.damage.proofs.Marks.{behind_here}
use Rattle.damage.proofs.room_wrong.Goals as goal

pub returns-then-i-wide : goal.returns-then-i-wide
returns-then-i-wide c =
    let h = c.args.h.now in
    let i = c.args.i in
    simp (lt-ltb i h.count (omega (arith, c.if-i-wide.true, c.wide.ensures)))
    (behind_here h.frames i c.wide-then-i-wide.result _ (let t = c.type_inv.h in let w = c.well_formed in omega arith) c.behind_used.ensures ∙ ap (λ n. any (behind (part_at h.frames i) n) 256) c.wide-then-i-wide.ensures)
