use native.Mathlib.Omega.{arith}
use Rattle.report.proofs.Texts.{whole_is}
use Rattle.report.proofs.refused.Goals as goal

pub returns-clause-value : goal.returns-clause-value
returns-clause-value c = (whole_is c.put_refused.ensures (omega (arith, c.told-out))).0

pub returns-clause-counts : goal.returns-clause-counts
returns-clause-counts c = (whole_is c.put_refused.ensures (omega (arith, c.told-out))).1
