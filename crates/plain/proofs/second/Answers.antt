use Rattle.plain.proofs.second.Goals as goal

pub returns : goal.returns
returns c = c.wide.ensures
