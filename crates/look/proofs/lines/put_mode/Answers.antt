use native.Mathlib.Omega.{arith}
use borrow.Author.Tests.{eq-eqb, ne_eqb}
use Rattle.decimal.specs.Texts.{ascii}
use Rattle.decimal.proofs.Texts.{puts}
use Rattle.look.specs.Look.{mode_of}
use Rattle.look.proofs.lines.put_mode.Goals as goal

pub returns-then-mode-eq0 : goal.returns-then-mode-eq0
unfolding mode_of ascii
returns-then-mode-eq0 c = rw (eq-eqb _ _ c.if-mode-eq0.true) (puts {most = 11} c.put_text.ensures (omega arith))

pub returns : goal.returns
unfolding mode_of ascii
returns c = rw (ne_eqb _ _ c.if-mode-eq0.false) (puts {most = 11} c.put_text-2.ensures (omega arith))
