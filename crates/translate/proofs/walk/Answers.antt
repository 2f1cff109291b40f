use Rattle.translate.proofs.Places.{entry_page, entry_word, entry_outside, entry_inside}
use Rattle.addresses.specs.Memory.{given, hosted}
use Rattle.addresses.specs.Walk.{walked}
use Rattle.addresses.specs.Entries.{judged}
use native.Mathlib.Omega.{arith}
use borrow.Author.Tests.{lt-leb, le-leb, eq-eqb, ne_eqb}
use Rattle.translate.proofs.walk.Goals as goal

pub returns-then-px-t : goal.returns-then-px-t
unfolding given walked hosted judged
returns-then-px-t c = simp (le-leb _ _ c.if-px-t.true)

pub returns-then-px-ge-LIMIT : goal.returns-then-px-ge-LIMIT
unfolding given walked hosted judged
returns-then-px-ge-LIMIT c = simp (lt-leb _ _ c.if-px-t.false, le-leb _ _ c.if-px-ge-LIMIT.true)

pub returns-then-pto-pages : goal.returns-then-pto-pages
unfolding given walked hosted judged
returns-then-pto-pages c = simp (lt-leb _ _ c.if-px-t.false, lt-leb _ _ c.if-px-ge-LIMIT.false, entry_outside c.args.t.pto c.args.px c.if-px-ge-LIMIT.false c.args.pages c.if-pto-pages.true)

pub overflow_mul-entry : goal.overflow_mul-entry
overflow_mul-entry c = omega (arith, c.requires.inside c.wide.result (omega (arith, c.wide.ensures, c.if-pto-pages.false)), c.wide-2.ensures, c.requires.small)

pub overflow_add-entry : goal.overflow_add-entry
overflow_add-entry c = omega (arith, c.requires.inside c.wide.result (omega (arith, c.wide.ensures, c.if-pto-pages.false)), c.wide-2.ensures, c.requires.small, c.wide-3.ensures, c.if-px-ge-LIMIT.false)

pub offset_bounds-words-wide : goal.offset_bounds-words-wide
offset_bounds-words-wide c = omega (arith, c.requires.inside c.wide.result (omega (arith, c.wide.ensures, c.if-pto-pages.false)), c.wide-2.ensures, c.requires.small, c.wide-3.ensures, c.if-px-ge-LIMIT.false)

pub bounds-words-wide : goal.bounds-words-wide
bounds-words-wide c = omega (arith, c.requires.inside c.wide.result (omega (arith, c.wide.ensures, c.if-pto-pages.false)), c.wide-2.ensures, c.wide-3.ensures, c.if-px-ge-LIMIT.false)

pub returns-then-entry-ne1 : goal.returns-then-entry-ne1
unfolding given walked hosted judged
returns-then-entry-ne1 c = simp (lt-leb _ _ c.if-px-t.false, lt-leb _ _ c.if-px-ge-LIMIT.false, entry_inside c.args.t.pto c.args.px c.if-px-ge-LIMIT.false c.args.pages c.if-pto-pages.false, entry_page c.args.t.pto c.args.px c.if-px-ge-LIMIT.false, entry_word c.args.t.pto c.args.px c.if-px-ge-LIMIT.false, ne_eqb _ _ (simp (c.wide-3.ensures, c.wide-2.ensures, c.wide.ensures) at c.if-entry-ne1.true))

pub returns-then-page-pages : goal.returns-then-page-pages
unfolding given walked hosted judged
returns-then-page-pages c = simp (lt-leb _ _ c.if-px-t.false, lt-leb _ _ c.if-px-ge-LIMIT.false, entry_inside c.args.t.pto c.args.px c.if-px-ge-LIMIT.false c.args.pages c.if-pto-pages.false, entry_page c.args.t.pto c.args.px c.if-px-ge-LIMIT.false, entry_word c.args.t.pto c.args.px c.if-px-ge-LIMIT.false, eq-eqb _ _ (simp (c.wide-3.ensures, c.wide-2.ensures, c.wide.ensures) at c.if-entry-ne1.false), le-leb _ _ (simp (c.wide-3.ensures, c.wide-2.ensures, c.wide.ensures) at c.if-page-pages.true))

pub overflow_mul-result : goal.overflow_mul-result
overflow_mul-result c = omega (arith, c.requires.inside c.wide-4.result (omega (arith, c.wide-4.ensures, c.if-page-pages.false)), c.requires.small)

pub overflow_add-result : goal.overflow_add-result
overflow_add-result c = omega (arith, c.requires.inside c.wide-4.result (omega (arith, c.wide-4.ensures, c.if-page-pages.false)), c.requires.small)

pub overflow_add-result-2 : goal.overflow_add-result-2
overflow_add-result-2 c = omega (arith, c.requires.inside c.wide-4.result (omega (arith, c.wide-4.ensures, c.if-page-pages.false)), c.requires.small)

pub returns : goal.returns
unfolding given walked hosted judged
returns c = simp (lt-leb _ _ c.if-px-t.false, lt-leb _ _ c.if-px-ge-LIMIT.false, entry_inside c.args.t.pto c.args.px c.if-px-ge-LIMIT.false c.args.pages c.if-pto-pages.false, entry_page c.args.t.pto c.args.px c.if-px-ge-LIMIT.false, entry_word c.args.t.pto c.args.px c.if-px-ge-LIMIT.false, c.wide-4.ensures, c.wide-3.ensures, c.wide-2.ensures, c.wide.ensures, eq-eqb _ _ (simp (c.wide-3.ensures, c.wide-2.ensures, c.wide.ensures) at c.if-entry-ne1.false), lt-leb _ _ (simp (c.wide-3.ensures, c.wide-2.ensures, c.wide.ensures) at c.if-page-pages.false))
