use Rattle.std.proofs.Common.{[], eq-eqb, ne_eqb}
use Rattle.drill.specs.Saving.{begun_by}
use Rattle.drill.proofs.saving.begins.Goals as goal

-- src/saving.rt:94:9
pub returns-then-b-eq1 : goal.returns-then-b-eq1
unfolding begun_by
returns-then-b-eq1 c = λ held. rw (eq-eqb _ _ c.if-b-eq1.true) (c.begin.ensures held [])

-- src/saving.rt:90:1
pub returns : goal.returns
unfolding begun_by
returns c = λ held. rw (ne_eqb _ _ c.if-b-eq1.false)
