use Rattle.quick.proofs.Laws.{not_away, page_long, page_word, cached_inside, cached_fetch, goes_none, goes_quit, goes_on, found_none, found_quit}
use Rattle.addresses.specs.Premises.{Placed}
use Rattle.std.proofs.Common.{sym, refl, ◌∙◌, subst, arith}
use Rattle.addresses.proofs.Entries.{placed_listed}
use Rattle.quick.proofs.in_page.Goals as goal

pub held-held-requires : goal.held-held-requires
held-held-requires c = placed_listed c.requires.placed

pub loop-left-init : goal.loop-left-init
loop-left-init c = (goes_none _ _ _ _ _ _ _ _ _ _ c.wrapping_sub_u32-x.ensures.value c.wrapping_sub_u32-y.ensures.value, refl, refl)

pub returns-then-away : goal.returns-then-away
returns-then-away c = (goes_quit _ _ _ _ _ _ _ _ _ _ _ _ _ _ _ _ _ _ (c.quit.ensures.0, c.quit.ensures.1, c.quit.ensures.2 ∙ omega arith, c.quit.ensures.3) c.loop-left.invariant.0, c.loop-left.invariant.1, c.loop-left.invariant.2, found_quit _ _ _ _ c.args.k c.args.p _ _ _ _ _ _ _ _ _ _ c.quit.ensures (found_none _ _ _ _ c.args.k c.args.p _ _ _))

pub overflow_add-base : goal.overflow_add-base
overflow_add-base c = let i = cached_inside _ _ _ _ _ c.args.t c.args.words.now _ c.requires.placed c.requires.shadowed c.requires.cached in omega (arith, i, c.requires.placed.small)

pub offset_bounds-words-base : goal.offset_bounds-words-base
offset_bounds-words-base c = let i = cached_inside _ _ _ _ _ c.args.t c.args.words.now _ c.requires.placed c.requires.shadowed c.requires.cached in omega (arith, i, c.requires.placed.small)

pub slice_bounds-fetch-count : goal.slice_bounds-fetch-count
slice_bounds-fetch-count c = omega arith

pub slice_bounds-fetch-start : goal.slice_bounds-fetch-start
slice_bounds-fetch-start c = omega arith

pub slice_bounds-fetch-end : goal.slice_bounds-fetch-end
slice_bounds-fetch-end c = let i = cached_inside _ _ _ _ _ c.args.t c.args.words.now _ c.requires.placed c.requires.shadowed c.requires.cached in omega (arith, i, c.loop-left.invariant.2)

pub fetch-w-requires : goal.fetch-w-requires
fetch-w-requires c = let i = cached_inside _ _ _ _ _ c.args.t c.args.words.now _ c.requires.placed c.requires.shadowed c.requires.cached in record { page_length = page_long c.loop-left.words c.args.base (omega (arith, i, c.loop-left.invariant.2)); x_bound = (not_away _ (sym c.away.ensures ∙ c.if-away.false)).1 }

pub act-requires : goal.act-requires
act-requires c = let i = c.loop-left.invariant in record { regs_length = i.1 ∙ c.requires.regs_length; placed = subst (λ z. Placed c.args.frames.now c.args.pages z) (sym i.2) c.requires.placed; shadowed = c.requires.shadowed; numbered = c.requires.numbered; held_page = c.held-held.ensures }

pub returns-in_default : goal.returns-in_default
returns-in_default c = let f = rw c.in_default.is at c.act.ensures in rw (f.0, f.1) (goes_quit _ _ _ _ _ _ _ _ _ _ _ _ _ _ _ _ _ _ (c.quit-in_default.ensures.0, c.quit-in_default.ensures.1, c.quit-in_default.ensures.2 ∙ omega arith, c.quit-in_default.ensures.3) c.loop-left.invariant.0, c.loop-left.invariant.1, c.loop-left.invariant.2, found_quit _ _ _ _ c.args.k c.args.p _ _ _ _ _ _ _ _ _ _ c.quit-in_default.ensures (λ _ latest k. cached_fetch _ _ _ _ _ _ c.args.p (omega arith) c.requires.cached _ c.loop-left.y _ _ _ latest k (sym c.away.ensures ∙ c.if-away.false) (page_word c.loop-left.words c.args.base _ _ (not_away _ (sym c.away.ensures ∙ c.if-away.false)).1 c.fetch-w.ensures)))

pub loop-left-preserved : goal.loop-left-preserved
loop-left-preserved c = let i = c.loop-left.invariant in let f = rw c.in-Some.is at c.act.ensures in (goes_on _ _ _ _ _ _ _ (omega arith) c.requires.cached _ _ _ _ _ _ _ _ _ _ _ _ c.loop-left-test.true (sym c.away.ensures ∙ c.if-away.false) (page_word c.loop-left.words c.args.base _ _ (not_away _ (sym c.away.ensures ∙ c.if-away.false)).1 c.fetch-w.ensures) f i.0, omega (arith, i.1), omega (arith, i.2))

pub returns : goal.returns
returns c = (goes_quit _ _ _ _ _ _ _ _ _ _ _ _ _ _ _ _ _ _ (c.quit-2.ensures.0, c.quit-2.ensures.1, c.quit-2.ensures.2 ∙ omega arith, c.quit-2.ensures.3) c.loop-left.invariant.0, c.loop-left.invariant.1, c.loop-left.invariant.2, found_quit _ _ _ _ c.args.k c.args.p _ _ _ _ _ _ _ _ _ _ c.quit-2.ensures (found_none _ _ _ _ c.args.k c.args.p _ _ _))
