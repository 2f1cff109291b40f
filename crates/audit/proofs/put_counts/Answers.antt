use Rattle.std.proofs.Common.{ℕ, [], ◌∷◌, get_or, arith}
use Rattle.decimal.proofs.Texts.{roomy, parts_begin, parts_on, parts_end}
use Rattle.report.specs.Report.{line}
use Rattle.audit.proofs.put_counts.Goals as goal

pub loop-i-init : goal.loop-i-init
loop-i-init c = parts_begin _ 22

pub loop-i-preserved : goal.loop-i-preserved
loop-i-preserved c = parts_on (λ (k : ℕ). line k (get_or c.args.each k 0 ∷ [])) 22 c.loop-i.i c.loop-i.invariant (rw c.wide.ensures at c.put_count-end.ensures)

pub returns : goal.returns
returns c = roomy 176 (parts_end _ 22 c.loop-i.i c.args.n (omega arith) (omega arith) c.loop-i.invariant) (omega (arith, c.requires))
