use Rattle.std.proofs.Common.{◌≡◌, refl, sym, ap, ◌∙◌, zero-le, arith}
use Rattle.addresses.specs.Walk.{entries}
use Rattle.staleness.specs.Audit.{stale_in, count_of}
use Rattle.staleness.proofs.Counting.{count_yes, count_no}
use Rattle.staleness.proofs.count_stale.Goals as goal
use Rattle.staleness.proofs.count_stale.Goals.{then-is_stale, else-is_stale}

pub loop-px-init : goal.loop-px-init
unfolding count_of
loop-px-init c = (refl, zero-le)

pub loop-px-preserved : goal.loop-px-preserved
loop-px-preserved c =
    let a = c.args in
    let l = c.loop-px in
    let p = stale_in a.frames.now a.pages a.t a.words.now a.shadow.now in
    elim c.if-is_stale.branch [
      | then-is_stale w ↦ let y = count_yes p l.px (sym c.is_stale.ensures ∙ w.if-is_stale.true) in (omega (arith, w.n-is, l.invariant.0, y), omega (arith, w.n-is, l.invariant.1))
      | else-is_stale w ↦ let y = count_no p l.px (sym c.is_stale.ensures ∙ w.if-is_stale.false) in (omega (arith, w.n-is, l.invariant.0, y), omega (arith, w.n-is, l.invariant.1))
    ]

pub returns : goal.returns
returns c = let a = c.args in let l = c.loop-px in let e : l.px ≡ entries = omega (arith, c.requires.shadow_length) in
    l.invariant.0 ∙ ap (count_of (stale_in a.frames.now a.pages a.t a.words.now a.shadow.now)) e
