use Rattle.std.proofs.Common.{sym, ◌∙◌, eq-eqb, ne_eqb}
use Rattle.restore.proofs.records.other_size.Goals as goal

-- src/records.rt:178:9
pub returns-then-long-wide : goal.returns-then-long-wide
returns-then-long-wide c = rw (eq-eqb _ _ (c.if-long-wide.true ∙ c.wide.ensures))

-- src/records.rt:174:1
pub returns : goal.returns
returns c = rw (ne_eqb _ _ (λ z. c.if-long-wide.false (z ∙ sym c.wide.ensures)))
