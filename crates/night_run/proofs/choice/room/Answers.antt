use Rattle.std.proofs.Common.{◌∙◌}
use Rattle.night_run.proofs.Choices.{short_room, some_room}
use Rattle.night_run.proofs.choice.room.Goals as goal

pub returns-then-head-lt22 : goal.returns-then-head-lt22
returns-then-head-lt22 c = short_room _ c.if-head-lt22.true

pub returns : goal.returns
returns c = c.min.ensures ∙ some_room _ _ _ c.if-head-lt22.false c.pair-low.ensures.value c.pair-high.ensures.value
