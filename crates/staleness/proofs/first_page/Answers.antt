use Rattle.std.proofs.Common.{◌≡◌, refl, sym, ◌∙◌, arith}
use Rattle.addresses.specs.Walk.{entries}
use Rattle.house.specs.Lists.{any}
use Rattle.house.proofs.Lists.Bounded.{any_more}
use Rattle.house.proofs.Lists.ByRule.{first_is, first_none}
use Rattle.staleness.specs.Audit.{stale_in}
use Rattle.staleness.proofs.first_page.Goals as goal

pub loop-px-init : goal.loop-px-init
unfolding any
loop-px-init c = refl

pub returns-then-is_stale : goal.returns-then-is_stale
returns-then-is_stale c = let a = c.args in let l = c.loop-px in (
  omega (arith, c.requires.shadow_length),
  first_is (stale_in a.frames.now a.pages a.t a.words.now a.shadow.now) entries l.px l.invariant (omega (arith, c.requires.shadow_length)) (sym c.is_stale.ensures ∙ c.if-is_stale.true),
)

pub loop-px-preserved : goal.loop-px-preserved
loop-px-preserved c = let a = c.args in
    any_more (stale_in a.frames.now a.pages a.t a.words.now a.shadow.now) c.loop-px.px c.loop-px.invariant (sym c.is_stale.ensures ∙ c.if-is_stale.false)

pub returns : goal.returns
returns c = let a = c.args in let l = c.loop-px in let e : l.px ≡ entries = omega (arith, c.requires.shadow_length) in
    first_none (stale_in a.frames.now a.pages a.t a.words.now a.shadow.now) entries (rw e at l.invariant)
