use Rattle.std.proofs.Common.{arith}
use Rattle.plain.proofs.high_word.Goals as goal

pub put-requires : goal.put-requires
put-requires c = omega (arith, c.requires, c.second-rd.ensures)

pub returns : goal.returns
returns c = simp (c.second-rd.ensures, c.near-imm.ensures) at c.put.ensures
