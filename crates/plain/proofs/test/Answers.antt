use Rattle.plain.proofs.Signed.{less, test_less, test_greater, test_same}
use Rattle.dlx.specs.Words.{test_of, reading_of}
use Rattle.std.proofs.Common.{◌≡◌, ◌/◌, ◌%◌, subst, arith}
use Rattle.plain.proofs.test.Goals as goal

-- src/lib.rt:219:9
pub returns-then-a-b : goal.returns-then-a-b
returns-then-a-b c = let a = c.args in subst (λ z. a.k / 2 % 2 ≡ test_of a.k a.a z) c.if-a-b.true (test_same a.k (reading_of a.a) c.requires)

-- src/lib.rt:224:9
pub returns-then-x-y : goal.returns-then-x-y
returns-then-x-y c = let a = c.args in test_less a.k (reading_of a.a) (reading_of a.b) c.requires (less a.a a.b (omega arith) (omega arith) (omega (arith, c.wrapping_add_u32-y.ensures.value, c.wrapping_add_u32-x.ensures.value, c.if-x-y.true)))

-- src/lib.rt:214:1
pub returns : goal.returns
returns c = let a = c.args in test_greater a.k (reading_of a.a) (reading_of a.b) c.requires (less a.b a.a (omega arith) (omega arith) (omega (arith, c.wrapping_add_u32-y.ensures.value, c.wrapping_add_u32-x.ensures.value, c.if-x-y.false, c.if-a-b.false)))
