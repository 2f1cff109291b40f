use Rattle.std.proofs.Common.{arith}
use Rattle.decimal.specs.Texts.{ascii}
use Rattle.decimal.proofs.Texts.{puts, ◌then◌}
use Rattle.laying.specs.Slip.{slip_text}
use Rattle.laying.proofs.put_slip.Goals as goal

-- src/lib.rt:233:1
pub returns : goal.returns
returns c = unfold ascii slip_text in (c.put_place-first.ensures then (puts {most = 1} c.put_text-second.ensures (omega arith) then (c.put_word-third.ensures then (puts {most = 11} c.put_text-fourth.ensures (omega arith) then (c.put_word-fifth.ensures then puts {most = 1} c.put_text.ensures (omega arith))))))
