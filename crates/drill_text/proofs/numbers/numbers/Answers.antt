use Rattle.std.proofs.Common.{ℕ, get_or, arith}
use Rattle.drill_text.specs.Numbers.{number_of, numbers_of}
use Rattle.decimal.proofs.Texts.{parts_begin, parts_on, parts_end}
use Rattle.drill_text.proofs.numbers.numbers.Goals as goal

pub loop-w-init : goal.loop-w-init
loop-w-init c = parts_begin _ 21

pub loop-w-preserved : goal.loop-w-preserved
loop-w-preserved c = parts_on (λ (k : ℕ). number_of (get_or c.args.words.now k 0)) 21 c.loop-w.w-index c.loop-w.invariant (rw c.from.ensures at c.number-end.ensures)

pub returns : goal.returns
unfolding numbers_of
returns c = parts_end _ 21 c.loop-w.w-index _ (omega arith) (omega arith) c.loop-w.invariant
