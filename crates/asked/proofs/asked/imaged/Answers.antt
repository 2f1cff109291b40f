use Rattle.std.proofs.Common.{eq-eqb, ne_eqb, le-ltb, arith}
use Rattle.asked.proofs.Taken.{imaged_unsaid, imaged_wrong, imaged_right}
use Rattle.asked.proofs.asked.imaged.Goals as goal
use Rattle.asked.proofs.asked.imaged.Goals.{then-address-ne0-via-then-address-ne0, then-address-ne0-via-else-address-ne0+then-a-ge64}

pub returns-in_default : goal.returns-in_default
returns-in_default c = λ pages frames. let a = c.args in imaged_unsaid a.a pages frames a.table.now a.word.now a.n c.in_default.ensures.value

pub returns-then-address-ne0 : goal.returns-then-address-ne0
returns-then-address-ne0 c = λ pages frames.
    let a = c.args in
    imaged_wrong a.a pages frames a.table.now a.word.now a.n c.in-Some.address c.in-Some.ensures.value
    (elim c.then-address-ne0.branch [
      | then-address-ne0-via-then-address-ne0 w ↦ simp (ne_eqb _ 0 w.if-address-ne0.true)
      | then-address-ne0-via-else-address-ne0+then-a-ge64 w ↦ simp (eq-eqb _ 0 w.if-address-ne0.false, le-ltb _ 64 w.if-a-ge64.true)
    ])

pub returns : goal.returns
returns c = λ pages frames.
    let a = c.args in
    imaged_right a.a pages frames a.table.now a.word.now a.n c.in-Some.address c.in-Some.ensures.value c.if-address-ne0.false (omega (arith, c.if-a-ge64.false)) _ _ _ c.put_at.ensures c.put_at-2.ensures c.put_at-3.ensures
