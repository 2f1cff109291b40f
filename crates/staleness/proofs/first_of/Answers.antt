use Rattle.std.proofs.Common.{Bool, ℕ, ap, subst}
use Rattle.addresses.specs.Walk.{entries}
use Rattle.house.specs.House.{pages_of}
use Rattle.hypervisor.proofs.Read.{lent_placed}
use Rattle.staleness.specs.Audit.{IsFirst}
use Rattle.staleness.proofs.Lent.{stale_lent}
use Rattle.staleness.proofs.first_of.Goals as goal

pub first_page-requires-clause-placed : goal.first_page-requires-clause-placed
first_page-requires-clause-placed c = let a = c.args in let e = c.wide-k.ensures in lent_placed a.h.now _ a.i _ _ e (ap (λ (k : ℕ). pages_of a.h.now k) e) c.requires.placed

pub returns : goal.returns
returns c = let a = c.args in subst (λ (p : ℕ → Bool). IsFirst p entries c.first_page.result) (stale_lent a.h.now a.i _ c.wide-k.ensures a.memory.now) c.first_page.ensures
