use Rattle.std.proofs.Common.{◌<◌, get_or, sym, ◌∙◌, arith}
use Rattle.addresses.specs.Walk.{entries}
use Rattle.staleness.specs.Audit.{kept_in}
use Rattle.staleness.proofs.SoFar.{list_from_self, far_none, far_all, made_empty, left_alone}
use Rattle.staleness.proofs.mend_shadow.Goals as goal
use Rattle.staleness.proofs.mend_shadow.Goals.{then-is_stale, else-is_stale}

pub loop-px-init : goal.loop-px-init
loop-px-init c = let a = c.args in sym (far_none (kept_in a.frames.now a.pages a.t a.words.now a.shadow.now) (λ k. get_or a.shadow.now k 0) entries ∙ list_from_self a.shadow.now entries c.requires.shadow_length)

pub loop-px-preserved : goal.loop-px-preserved
loop-px-preserved c =
    let a = c.args in
    let l = c.loop-px in
    let b : l.px < entries = omega (arith, c.requires.shadow_length) in
    elim c.if-is_stale.branch [
      | then-is_stale w ↦ w.shadow-is ∙ made_empty a.frames.now a.pages a.t a.words.now a.shadow.now l.shadow l.px l.invariant b (sym c.is_stale.ensures ∙ w.if-is_stale.true)
      | else-is_stale w ↦ w.shadow-is ∙ left_alone a.frames.now a.pages a.t a.words.now a.shadow.now l.shadow l.px l.invariant b (sym c.is_stale.ensures ∙ w.if-is_stale.false)
    ]

pub returns : goal.returns
returns c = let a = c.args in let l = c.loop-px in
    l.invariant ∙ far_all (kept_in a.frames.now a.pages a.t a.words.now a.shadow.now) (λ k. get_or a.shadow.now k 0) entries l.px (λ k b b'. absurd (omega (arith, c.loop-px-test.false, c.requires.shadow_length)))
