use Rattle.std.proofs.Common.{ℕ, ap}
use Rattle.house.specs.House.{pages_of}
use Rattle.hypervisor.proofs.single.pages_of.Goals as goal

pub returns : goal.returns
returns c = ap (λ (k : ℕ). pages_of c.args.h k) c.wide.ensures
