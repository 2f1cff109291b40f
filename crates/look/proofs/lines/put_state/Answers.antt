use native.Mathlib.Omega.{arith}
use Rattle.decimal.specs.Texts.{ascii}
use Rattle.decimal.proofs.Texts.{puts}
use Rattle.look.specs.Look.{state_of}
use Rattle.look.proofs.lines.put_state.Goals as goal

pub returns-then-running : goal.returns-then-running
unfolding state_of ascii
returns-then-running c = rw c.if-running.true (puts {most = 11} c.put_text.ensures (omega arith))

pub returns : goal.returns
unfolding state_of ascii
returns c = rw c.if-running.false (puts {most = 11} c.put_text-2.ensures (omega arith))
