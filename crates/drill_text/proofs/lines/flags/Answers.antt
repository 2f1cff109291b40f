use Rattle.std.proofs.Common.{ℕ, false, get_or, arith}
use Rattle.dlx.specs.Choice.{when◌then◌else◌}
use Rattle.drill_text.specs.Numbers.{number_of}
use Rattle.drill_text.specs.Lines.{flags_of}
use Rattle.decimal.proofs.Texts.{parts_begin, parts_on, parts_end}
use Rattle.drill_text.proofs.Flags.{flag_byte}
use Rattle.drill_text.proofs.lines.flags.Goals as goal

pub loop-r-init : goal.loop-r-init
loop-r-init c = parts_begin _ 21

pub loop-r-preserved : goal.loop-r-preserved
loop-r-preserved c = parts_on (λ (k : ℕ). number_of (when get_or c.args.running.now k false then 1 else 0)) 21 c.loop-r.r-index c.loop-r.invariant (rw (c.from.ensures, flag_byte) at c.number-end.ensures)

pub returns : goal.returns
unfolding flags_of
returns c = parts_end _ 21 c.loop-r.r-index 8 (omega arith) (omega arith) c.loop-r.invariant
