use Rattle.house.specs.Boot.{booted_house}
use Rattle.boot.proofs.booted.Goals as goal

pub returns : goal.returns
unfolding booted_house
returns c = simp (c.all_running-house.ensures, c.fresh_parts-house.ensures, c.lay-house.ensures, c.none-house.ensures)
