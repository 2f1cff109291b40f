use Rattle.restore.proofs.Bodies.{filled}
use Rattle.restore.proofs.records.pad.Goals as goal

pub returns : goal.returns
returns c = filled c.args.to.now c.args.words.now _ _ c.requires c.copy_from_slice.ensures.after (c.fill.ensures.after (λ y h. h))
