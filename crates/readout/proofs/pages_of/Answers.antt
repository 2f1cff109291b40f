use mathlib.Core.Path.{ap}
use Prim.Native.Nat.{ℕ}
use Rattle.house.specs.House.{pages_of}
use Rattle.readout.proofs.pages_of.Goals as goal

pub returns : goal.returns
returns c = ap (λ (k : ℕ). pages_of c.args.house k) c.wide.ensures
