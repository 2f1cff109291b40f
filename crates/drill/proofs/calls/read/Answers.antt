use Rattle.std.proofs.Common.{arith}
use Rattle.decimal.proofs.Texts.{◌then◌, roomy}
use Rattle.house.specs.Refusals.{answer_of}
use Rattle.drill.specs.Told.{most_read}
use Rattle.drill.specs.Player.{read_text_of}
use Rattle.drill.proofs.Shown.{shown_few, shown_in}
use Rattle.drill.proofs.calls.read.Goals as goal

pub output-requires : goal.output-requires
output-requires c =
    let a = c.args in
    omega (arith, shown_in _ _ _ _ _ _ (answer_of a.h c.read_out-answer.result a.memory.now) c.read_out-answer.ensures, c.shown.ensures a.h a.memory.now, c.read_out-answer.auto)

pub returns : goal.returns
unfolding read_text_of
returns c =
    let a = c.args in
    let v = (answer_of a.h c.read_out-answer.result a.memory.now).verdict in
    let s = c.shown.ensures a.h a.memory.now in
    rw (← c.read_out-answer.ensures, ← s) (roomy most_read (c.answer-called.ensures then c.output.ensures) (omega (arith, s, shown_few v.number v.detail)))
