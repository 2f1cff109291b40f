use Rattle.house.specs.House.{fresh_shadows}
use Rattle.house.proofs.House.none.Goals as goal

pub returns : goal.returns
unfolding fresh_shadows
returns c = simp c.fresh-unused.ensures
