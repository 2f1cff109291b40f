use Rattle.plain.proofs.first.Goals as goal

pub returns : goal.returns
returns c = c.wide.ensures
