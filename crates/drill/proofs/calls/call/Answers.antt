use Rattle.drill.specs.Player.{call_text_of}
use Rattle.drill.proofs.Shown.{memory_left}
use Rattle.drill.proofs.calls.call.Goals as goal

pub returns : goal.returns
unfolding call_text_of
returns c = (
  rw (← c.called-answer.ensures, ← c.given-given.ensures) (c.left-house.ensures _),
  rw (← c.called-answer.ensures, ← c.given-given.ensures, memory_left c.given-given.result c.called-answer.result c.called-answer.new.memory) c.answer-end.ensures,
)
