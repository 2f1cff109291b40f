use mathlib.Core.Path.{refl}
use native.Mathlib.Omega.{arith}
use Rattle.report.proofs.Texts.{whole_is, put_as}
use Rattle.audit.proofs.lines.Goals as goal

pub returns : goal.returns
returns c = let q = whole_is c.put_counts.ensures (omega (arith, c.told-out)) in record { value = put_as _ _ _ _ _ q.0.0 q.0.1 refl; counts = q.1 }
