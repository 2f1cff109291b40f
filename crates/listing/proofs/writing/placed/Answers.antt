use Rattle.std.proofs.Common.{arith}
use Rattle.listing.proofs.Pieces.{placed_is}
use Rattle.listing.proofs.writing.placed.Goals as goal

pub overflow_mul-result : goal.overflow_mul-result
overflow_mul-result c = omega (arith, (placed_is _ _ c.args.v c.operand-o.ensures.value).1)

pub returns : goal.returns
returns c = placed_is _ _ c.args.v c.operand-o.ensures.value
