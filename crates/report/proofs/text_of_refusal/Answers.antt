use mathlib.Core.Path.{refl}
use native.Mathlib.Omega.{arith}
use Rattle.report.proofs.Texts.{whole_is, put_as}
use Rattle.report.proofs.text_of_refusal.Goals as goal

pub returns-clause-value : goal.returns-clause-value
returns-clause-value c = let w = whole_is c.put_refusal.ensures (omega (arith, c.told-out)) in put_as _ _ _ _ _ w.0.0 w.0.1 refl

pub returns-clause-counts : goal.returns-clause-counts
returns-clause-counts c = (whole_is c.put_refusal.ensures (omega (arith, c.told-out))).1
