use Rattle.std.proofs.Common.{arith}
use Rattle.dlx.specs.Execute.{value_of}
use Rattle.processor.proofs.execute.value.Goals as goal

pub returns-in-Add : goal.returns-in-Add
unfolding value_of
returns-in-Add c = simp (c.wrapping_add_u32.ensures.value, c.in-Add.is)

pub returns-in-Sub : goal.returns-in-Sub
unfolding value_of
returns-in-Sub c = simp c.in-Sub.is (omega (arith, c.wrapping_sub_u32.ensures.value))

pub returns-in-And : goal.returns-in-And
unfolding value_of
returns-in-And c = simp (c.in-And.is)

pub returns-in-Or : goal.returns-in-Or
unfolding value_of
returns-in-Or c = simp (c.in-Or.is)

pub returns-in-Xor : goal.returns-in-Xor
unfolding value_of
returns-in-Xor c = simp (c.in-Xor.is)

pub returns-in-Test : goal.returns-in-Test
unfolding value_of
returns-in-Test c = simp (c.test.ensures, c.in-Test.is)
