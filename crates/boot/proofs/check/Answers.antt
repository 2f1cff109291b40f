use mathlib.Core.Path.{sym, ◌∙◌}
use borrow.Author.Tests.{eq-eqb, ne_eqb, leb-true}
use lib.Dec.{leb}
use lib.ListN.{length}
use Rattle.house.specs.Boot.{pages_wrong, frame_outside, frame_kept, stood_earlier, first_of, boot_verdict}
use Rattle.house.proofs.Lists.Bounded.{and_right}
use Rattle.house.proofs.Lists.ByRule.{any_found, any_missed}
use Rattle.boot.proofs.Places.{few, below}
use Rattle.boot.proofs.check.Goals as goal

pub returns-then-not-within : goal.returns-then-not-within
unfolding boot_verdict first_of
returns-then-not-within c = simp (sym c.within.ensures ∙ c.if-not-within.true)

pub returns-then-wrong-pages : goal.returns-then-wrong-pages
unfolding boot_verdict first_of
returns-then-wrong-pages c = simp (sym c.within.ensures ∙ c.if-not-within.false, any_found (pages_wrong c.args.pages.now) _ _ c.first_wrong-wrong.ensures c.if-wrong-pages.true, c.first_wrong-wrong.ensures)

pub returns-then-not-within-2 : goal.returns-then-not-within-2
unfolding boot_verdict first_of
returns-then-not-within-2 c = simp (sym c.within.ensures ∙ c.if-not-within.false, any_missed (pages_wrong c.args.pages.now) _ _ c.first_wrong-wrong.ensures c.if-wrong-pages.false, (simp c.wide.ensures at (sym c.within-2.ensures ∙ c.if-not-within-2.true)))

pub returns-then-not-whole : goal.returns-then-not-whole
unfolding boot_verdict first_of
returns-then-not-whole c = simp (sym c.within.ensures ∙ c.if-not-within.false, any_missed (pages_wrong c.args.pages.now) _ _ c.first_wrong-wrong.ensures c.if-wrong-pages.false, (simp c.wide.ensures at (sym c.within-2.ensures ∙ c.if-not-within-2.false)), sym c.whole.ensures ∙ c.if-not-whole.true)

pub total-requires : goal.total-requires
total-requires c = few _ (leb-true (length c.args.pages.now) 8 (and_right (leb 1 (length c.args.pages.now)) (leb (length c.args.pages.now) 8) (sym c.within.ensures ∙ c.if-not-within.false))) (any_missed (pages_wrong c.args.pages.now) _ _ c.first_wrong-wrong.ensures c.if-wrong-pages.false)

pub returns-then-frames-total : goal.returns-then-frames-total
unfolding boot_verdict first_of
returns-then-frames-total c = simp (sym c.within.ensures ∙ c.if-not-within.false, any_missed (pages_wrong c.args.pages.now) _ _ c.first_wrong-wrong.ensures c.if-wrong-pages.false, (simp c.wide.ensures at (sym c.within-2.ensures ∙ c.if-not-within-2.false)), sym c.whole.ensures ∙ c.if-not-whole.false, ne_eqb _ _ (simp c.total.ensures at c.if-frames-total.true))

pub returns-then-outside-frames : goal.returns-then-outside-frames
unfolding boot_verdict first_of
returns-then-outside-frames c = simp (sym c.within.ensures ∙ c.if-not-within.false, any_missed (pages_wrong c.args.pages.now) _ _ c.first_wrong-wrong.ensures c.if-wrong-pages.false, (simp c.wide.ensures at (sym c.within-2.ensures ∙ c.if-not-within-2.false)), sym c.whole.ensures ∙ c.if-not-whole.false, eq-eqb _ _ (simp c.total.ensures at c.if-frames-total.false), any_found (frame_outside c.args.frames.now c.args.words) _ _ c.first_outside-outside.ensures c.if-outside-frames.true, c.first_outside-outside.ensures)

pub returns-then-kept-frames : goal.returns-then-kept-frames
unfolding boot_verdict first_of
returns-then-kept-frames c = simp (sym c.within.ensures ∙ c.if-not-within.false, any_missed (pages_wrong c.args.pages.now) _ _ c.first_wrong-wrong.ensures c.if-wrong-pages.false, (simp c.wide.ensures at (sym c.within-2.ensures ∙ c.if-not-within-2.false)), sym c.whole.ensures ∙ c.if-not-whole.false, eq-eqb _ _ (simp c.total.ensures at c.if-frames-total.false), any_missed (frame_outside c.args.frames.now c.args.words) _ _ c.first_outside-outside.ensures c.if-outside-frames.false, any_found (frame_kept c.args.frames.now) _ _ c.first_kept-kept.ensures c.if-kept-frames.true, c.first_kept-kept.ensures)

pub first_repeat-repeat-requires : goal.first_repeat-repeat-requires
first_repeat-repeat-requires c = below c.args.frames.now _ _ (sym c.whole.ensures ∙ c.if-not-whole.false) c.first_outside-outside.ensures c.if-outside-frames.false

pub returns-then-repeat-frames : goal.returns-then-repeat-frames
unfolding boot_verdict first_of
returns-then-repeat-frames c = simp (sym c.within.ensures ∙ c.if-not-within.false, any_missed (pages_wrong c.args.pages.now) _ _ c.first_wrong-wrong.ensures c.if-wrong-pages.false, (simp c.wide.ensures at (sym c.within-2.ensures ∙ c.if-not-within-2.false)), sym c.whole.ensures ∙ c.if-not-whole.false, eq-eqb _ _ (simp c.total.ensures at c.if-frames-total.false), any_missed (frame_outside c.args.frames.now c.args.words) _ _ c.first_outside-outside.ensures c.if-outside-frames.false, any_missed (frame_kept c.args.frames.now) _ _ c.first_kept-kept.ensures c.if-kept-frames.false, any_found (stood_earlier c.args.frames.now) _ _ c.first_repeat-repeat.ensures c.if-repeat-frames.true, c.first_repeat-repeat.ensures)

pub returns : goal.returns
unfolding boot_verdict first_of
returns c = simp (sym c.within.ensures ∙ c.if-not-within.false, any_missed (pages_wrong c.args.pages.now) _ _ c.first_wrong-wrong.ensures c.if-wrong-pages.false, (simp c.wide.ensures at (sym c.within-2.ensures ∙ c.if-not-within-2.false)), sym c.whole.ensures ∙ c.if-not-whole.false, eq-eqb _ _ (simp c.total.ensures at c.if-frames-total.false), any_missed (frame_outside c.args.frames.now c.args.words) _ _ c.first_outside-outside.ensures c.if-outside-frames.false, any_missed (frame_kept c.args.frames.now) _ _ c.first_kept-kept.ensures c.if-kept-frames.false, any_missed (stood_earlier c.args.frames.now) _ _ c.first_repeat-repeat.ensures c.if-repeat-frames.false)
