use Rattle.damage.proofs.Marks.{loose_marked, tight_marked}
use Prim.Native.Nat.{ℕ}
use lib.Dec.{eqb}
use lib.ListN.{get_or}
use mathlib.Core.Bool.{not}
use mathlib.Core.Path.{ap, ◌∙◌}
use native.Mathlib.Omega.{arith}
use Rattle.damage.proofs.entry_wrong.Goals as goal

pub returns-then-e-eq0 : goal.returns-then-e-eq0
returns-then-e-eq0 c = simp c.if-e-eq0.true

pub returns-then-e : goal.returns-then-e
returns-then-e c = loose_marked c.args.owners.now c.args.tag c.args.e c.requires.1 c.requires.0 c.if-e-eq0.false c.if-e.true

pub offset_bounds-owners-frame : goal.offset_bounds-owners-frame
offset_bounds-owners-frame c = let t = tight_marked c.args.owners.now c.args.tag c.args.e c.if-e.false in record { fits = omega (arith, t.0, c.wide-frame.ensures) }

pub bounds-owners-frame : goal.bounds-owners-frame
bounds-owners-frame c = let t = tight_marked c.args.owners.now c.args.tag c.args.e c.if-e.false in omega (arith, t.0, c.wide-frame.ensures, c.requires.1)

pub returns : goal.returns
returns c = ap (λ (j : ℕ). not (eqb (get_or c.args.owners.now j 0) c.args.tag)) c.wide-frame.ensures ∙ (tight_marked c.args.owners.now c.args.tag c.args.e c.if-e.false).1
