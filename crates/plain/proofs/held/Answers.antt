use Rattle.plain.specs.Plain.{held_of}
use Rattle.std.proofs.Common.{le-ltb, lt-ltb}
use Rattle.plain.proofs.held.Goals as goal

-- src/lib.rt:58:9
pub returns-then-pto-pages : goal.returns-then-pto-pages
unfolding held_of
returns-then-pto-pages c = simp (le-ltb _ _ c.if-pto-pages.true)

-- src/lib.rt:52:1
pub returns : goal.returns
unfolding held_of
returns c = simp (lt-ltb _ _ c.if-pto-pages.false, c.wide.ensures)
