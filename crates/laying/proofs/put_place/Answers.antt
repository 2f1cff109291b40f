use Rattle.std.proofs.Common.{arith}
use Rattle.decimal.specs.Texts.{ascii}
use Rattle.decimal.proofs.Texts.{puts, ◌then◌}
use Rattle.laying.specs.Slip.{place_text}
use Rattle.laying.proofs.put_place.Goals as goal

-- src/lib.rt:223:1
pub returns : goal.returns
returns c = unfold ascii place_text in (puts {most = 10} c.put_text-first.ensures (omega arith) then c.put_word-second.ensures then (puts {most = 9} c.put_text-third.ensures (omega arith) then c.put_word.ensures))
