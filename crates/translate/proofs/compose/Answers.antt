use Rattle.addresses.specs.Entries.{judged, composed}
use borrow.Author.Tests.{lt-leb, le-leb, eq-eqb, ne_eqb}
use Rattle.translate.proofs.compose.Goals as goal

pub returns-then-entry-ne1 : goal.returns-then-entry-ne1
unfolding judged composed
returns-then-entry-ne1 c = simp (ne_eqb _ _ c.if-entry-ne1.true)

pub returns-then-entry-pages : goal.returns-then-entry-pages
unfolding judged composed
returns-then-entry-pages c = simp (le-leb _ _ c.if-entry-pages.true, eq-eqb _ _ c.if-entry-ne1.false)

pub returns-then-access-eq0 : goal.returns-then-access-eq0
unfolding judged composed
returns-then-access-eq0 c = simp (eq-eqb _ _ c.if-access-eq0.true, lt-leb _ _ c.if-entry-pages.false, eq-eqb _ _ c.if-entry-ne1.false)

pub returns-then-entry-eq1 : goal.returns-then-entry-eq1
unfolding judged composed
returns-then-entry-eq1 c = simp (eq-eqb _ _ c.if-entry-eq1.true, ne_eqb _ _ c.if-access-eq0.false, lt-leb _ _ c.if-entry-pages.false, eq-eqb _ _ c.if-entry-ne1.false)

pub returns : goal.returns
unfolding judged composed
returns c = simp (ne_eqb _ _ c.if-entry-eq1.false, ne_eqb _ _ c.if-access-eq0.false, lt-leb _ _ c.if-entry-pages.false, eq-eqb _ _ c.if-entry-ne1.false)
