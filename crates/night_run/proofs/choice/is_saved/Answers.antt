use Rattle.night_run.proofs.Choices.{short_saved, long_saved}
use Rattle.night_run.proofs.choice.is_saved.Goals as goal

-- src/choice.rt:31:9
pub returns-then-head-lt6 : goal.returns-then-head-lt6
returns-then-head-lt6 c = short_saved _ c.if-head-lt6.true

-- src/choice.rt:27:1
pub returns : goal.returns
returns c = long_saved _ _ c.if-head-lt6.false c.pair.ensures.value
