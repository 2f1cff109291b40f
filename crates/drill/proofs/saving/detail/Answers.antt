use Rattle.std.proofs.Common.{eq-eqb, ne_eqb}
use Rattle.drill.specs.Saving.{detail_of}
use Rattle.drill.proofs.saving.detail.Goals as goal

-- src/saving.rt:84:9
pub returns-then-r-eq17 : goal.returns-then-r-eq17
unfolding detail_of
returns-then-r-eq17 c = λ h m. simp (eq-eqb _ _ c.if-r-eq17.true)

-- src/saving.rt:80:1
pub returns : goal.returns
unfolding detail_of
returns c = λ h m. simp (ne_eqb _ _ c.if-r-eq17.false)
