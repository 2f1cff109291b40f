use Rattle.addresses.specs.Memory.{emptied}
use borrow.Author.Tests.{lt-ltb, le-ltb, eq-eqb, ne_eqb}
use Rattle.translate.proofs.empty_entry.Goals as goal

pub returns-then-pto-pages : goal.returns-then-pto-pages
unfolding emptied
returns-then-pto-pages c = simp (le-ltb _ _ c.if-pto-pages.true)

pub returns-then-frames-wide : goal.returns-then-frames-wide
unfolding emptied
returns-then-frames-wide c = simp (ne_eqb _ _ (simp c.wide.ensures at c.if-frames-wide.true), lt-ltb _ _ c.if-pto-pages.false)

pub returns-then-off-t : goal.returns-then-off-t
unfolding emptied
returns-then-off-t c = simp (le-ltb _ _ c.if-off-t.true, eq-eqb _ _ (simp c.wide.ensures at c.if-frames-wide.false), lt-ltb _ _ c.if-pto-pages.false)

pub returns : goal.returns
unfolding emptied
returns c = simp (c.wide-2.ensures, lt-ltb _ _ c.if-off-t.false, eq-eqb _ _ (simp c.wide.ensures at c.if-frames-wide.false), lt-ltb _ _ c.if-pto-pages.false, lt-ltb _ _ c.requires.off_bound)
