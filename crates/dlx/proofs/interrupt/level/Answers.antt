use borrow.Author.Rules.{rules}
use lib.Count.{count_trailing_zeros}
use Rattle.dlx.specs.Interrupts.{level_of}
use Rattle.dlx.proofs.interrupt.level.Goals as goal

pub returns : goal.returns
unfolding count_trailing_zeros level_of
returns c = search rules
