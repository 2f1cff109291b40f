use Rattle.std.proofs.Common.{Bool, ℕ, ap, ◌∙◌}
use Rattle.addresses.specs.Walk.{entries}
use Rattle.house.specs.House.{pages_of}
use Rattle.hypervisor.proofs.Read.{lent_placed}
use Rattle.staleness.specs.Audit.{count_of}
use Rattle.staleness.proofs.Lent.{stale_lent}
use Rattle.staleness.proofs.count_of.Goals as goal

pub count_stale-requires-clause-placed : goal.count_stale-requires-clause-placed
count_stale-requires-clause-placed c = let a = c.args in let e = c.wide-k.ensures in lent_placed a.h.now _ a.i _ _ e (ap (λ (k : ℕ). pages_of a.h.now k) e) c.requires.placed

pub returns : goal.returns
returns c = let a = c.args in c.count_stale.ensures ∙ ap (λ (p : ℕ → Bool). count_of p entries) (stale_lent a.h.now a.i _ c.wide-k.ensures a.memory.now)
