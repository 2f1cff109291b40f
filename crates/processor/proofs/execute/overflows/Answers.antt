use Rattle.dlx.specs.Execute.{overflows_of}
use Rattle.processor.proofs.execute.overflows.Goals as goal

pub returns-in-Add : goal.returns-in-Add
unfolding overflows_of
returns-in-Add c = simp (c.sum_overflows.ensures, c.in-Add.is)

pub returns-in-Sub : goal.returns-in-Sub
unfolding overflows_of
returns-in-Sub c = simp (c.difference_overflows.ensures, c.in-Sub.is)

pub returns-in-And : goal.returns-in-And
unfolding overflows_of
returns-in-And c = simp (c.in-And.is)

pub returns-in-Or : goal.returns-in-Or
unfolding overflows_of
returns-in-Or c = simp (c.in-Or.is)

pub returns-in-Xor : goal.returns-in-Xor
unfolding overflows_of
returns-in-Xor c = simp (c.in-Xor.is)

pub returns-in-Test : goal.returns-in-Test
unfolding overflows_of
returns-in-Test c = simp (c.in-Test.is)
