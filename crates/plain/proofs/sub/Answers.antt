use Rattle.dlx.specs.Execute.{operated, overflows_of, value_of}
use Rattle.dlx.specs.Words.{minus}
use Rattle.std.proofs.Common.{◌≡◌, refl, arith, eq-eqb, ne_eqb}
use Rattle.plain.proofs.sub.Goals as goal

-- src/lib.rt:206:13
pub returns-then-difference_overflows : goal.returns-then-difference_overflows
returns-then-difference_overflows c = refl

-- src/lib.rt:208:9
pub returns-then-sr-eq1 : goal.returns-then-sr-eq1
unfolding operated overflows_of value_of
returns-then-sr-eq1 c = let e = c.put.ensures in let m : c.wrapping_sub_u32-v.result ≡ minus c.args.a c.args.b = omega (arith, c.wrapping_sub_u32-v.ensures.value) in (simp (e.0, m), e.1, λ next. simp (simp c.difference_overflows.ensures at c.if-difference_overflows.false, eq-eqb _ _ c.if-sr-eq1.true))

-- src/lib.rt:199:1
pub returns : goal.returns
unfolding operated overflows_of value_of
returns c = let e = c.put-2.ensures in let m : c.wrapping_sub_u32-v.result ≡ minus c.args.a c.args.b = omega (arith, c.wrapping_sub_u32-v.ensures.value) in (simp (e.0, m), e.1, λ next. simp (ne_eqb _ _ c.if-sr-eq1.false))
