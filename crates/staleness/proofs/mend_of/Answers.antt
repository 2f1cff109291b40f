use Rattle.std.proofs.Common.{ℕ, ap}
use native.Mathlib.Nat.{add-sub_cancel_left}
use Rattle.dlx.specs.Parts.{inner, outer}
use Rattle.house.specs.House.{pages_of}
use Rattle.hypervisor.proofs.Read.{lent_placed}
use Rattle.staleness.specs.Audit.{mended_one}
use Rattle.staleness.proofs.mend_of.Goals as goal

pub mend_shadow-requires-clause-placed : goal.mend_shadow-requires-clause-placed
mend_shadow-requires-clause-placed c = let a = c.args in let e = c.wide-k.ensures in lent_placed a.h _ a.i _ _ e (ap (λ (k : ℕ). pages_of a.h k) e) c.requires.placed

pub returns : goal.returns
unfolding mended_one outer inner
returns c = simp (c.mend_shadow.ensures, c.wide-k.ensures, add-sub_cancel_left)
