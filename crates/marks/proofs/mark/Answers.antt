use native.Mathlib.Omega.{arith}
use lib.ListN.{length-set, get_or}
use Rattle.std.proofs.lemmas.List.{length-take, get_or-take}
use Prim.Native.Nat.{◌<◌}
use mathlib.Core.Path.{◌≡◌, refl, sym, ap, ◌∙◌}
use mathlib.Core.Bool.{false}
use Rattle.house.specs.Lists.{any}
use Rattle.house.proofs.Lists.Bounded.{any_more, any_yes}
use Rattle.house.proofs.Lists.ByRule.{first_is, first_none}
use Rattle.marks.specs.Marked.{marked, twice_marked}
use Rattle.marks.proofs.Marked.{marked_more, mark_found, mark_free}
use Rattle.marks.proofs.mark.Goals as goal

pub loop-k-init : goal.loop-k-init
unfolding any marked
loop-k-init c = (refl, refl, c.requires.2)

pub returns-then-owners-f-ne0 : goal.returns-then-owners-f-ne0
returns-then-owners-f-ne0 c = let a = c.args in let l = c.loop-k in
    let in_n : l.k < a.n = omega (arith, length-take a.n a.frames.now) in
    let frame : c.wide-f.result ≡ get_or a.frames.now l.k 0 = c.wide-f.ensures ∙ get_or-take a.n a.frames.now l.k 0 in_n in
    let b = c.requires.3 l.k in_n in
    let f = mark_found a.frames.now a.tag a.owners.now l.k (omega (arith, b, c.requires.2)) (rw (l.invariant.1, frame) at c.if-owners-f-ne0.true) in
    let at = sym (first_is (twice_marked a.owners.now a.frames.now) a.n l.k l.invariant.0 in_n f) in
    record {
      twice = (any_yes (twice_marked a.owners.now a.frames.now) a.n l.k in_n f, at);
      marks = l.invariant.1 ∙ ap (marked a.frames.now a.tag a.owners.now) at;
    }

pub loop-k-preserved : goal.loop-k-preserved
loop-k-preserved c = let a = c.args in let l = c.loop-k in
    let in_n : l.k < a.n = omega (arith, length-take a.n a.frames.now) in
    let frame : c.wide-f.result ≡ get_or a.frames.now l.k 0 = c.wide-f.ensures ∙ get_or-take a.n a.frames.now l.k 0 in_n in
    let b = c.requires.3 l.k in_n in (
      any_more (twice_marked a.owners.now a.frames.now) l.k l.invariant.0
          (mark_free a.frames.now a.tag a.owners.now l.k (omega (arith, b, c.requires.2)) c.requires.1 (rw (l.invariant.1, frame) at c.if-owners-f-ne0.false)),
      marked_more a.frames.now a.tag a.owners.now _ l.k _ l.invariant.1 frame,
      simp length-set l.invariant.2,
    )

pub returns-clause-marks : goal.returns-clause-marks
returns-clause-marks c = let a = c.args in let l = c.loop-k in
    let end : l.k ≡ a.n = omega (arith, length-take a.n a.frames.now) in
    let free : any (twice_marked a.owners.now a.frames.now) a.n ≡ false = rw end at l.invariant.0 in
    l.invariant.1 ∙ ap (marked a.frames.now a.tag a.owners.now) (end ∙ sym (first_none (twice_marked a.owners.now a.frames.now) a.n free))
