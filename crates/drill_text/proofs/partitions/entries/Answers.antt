use Rattle.std.proofs.Common.{ℕ, get_or, arith}
use Rattle.drill_text.specs.Partitions.{entry_of, entries_of}
use Rattle.decimal.proofs.Texts.{parts_begin, parts_on, parts_end}
use Rattle.drill_text.proofs.partitions.entries.Goals as goal

pub loop-px-init : goal.loop-px-init
loop-px-init c = parts_begin _ 42

pub loop-px-preserved : goal.loop-px-preserved
loop-px-preserved c = parts_on (λ (k : ℕ). entry_of k (get_or c.args.shadow.now k 0)) 42 c.loop-px.px c.loop-px.invariant c.entry-end.ensures

pub returns : goal.returns
unfolding entries_of
returns c = parts_end _ 42 c.loop-px.px _ (omega arith) (omega arith) c.loop-px.invariant
