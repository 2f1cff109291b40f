use Rattle.dlx.specs.Execute.{operated, overflows_of, value_of}
use Rattle.std.proofs.Common.{refl, eq-eqb, ne_eqb}
use Rattle.plain.proofs.add.Goals as goal

-- src/lib.rt:191:13
pub returns-then-sum_overflows : goal.returns-then-sum_overflows
returns-then-sum_overflows c = refl

-- src/lib.rt:193:9
pub returns-then-sr-eq1 : goal.returns-then-sr-eq1
unfolding operated overflows_of value_of
returns-then-sr-eq1 c = let e = c.put.ensures in (simp (e.0, c.wrapping_add_u32-v.ensures.value), e.1, λ next. simp (simp c.sum_overflows.ensures at c.if-sum_overflows.false, eq-eqb _ _ c.if-sr-eq1.true))

-- src/lib.rt:184:1
pub returns : goal.returns
unfolding operated overflows_of value_of
returns c = let e = c.put-2.ensures in (simp (e.0, c.wrapping_add_u32-v.ensures.value), e.1, λ next. simp (ne_eqb _ _ c.if-sr-eq1.false))
