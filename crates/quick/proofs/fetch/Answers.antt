use Rattle.quick.proofs.fetch.Goals as goal

pub returns : goal.returns
returns c = simp c.wide.ensures
