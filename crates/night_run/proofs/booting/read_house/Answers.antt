use Rattle.night_run.proofs.Files.{none_read, house_begun}
use Rattle.night_run.proofs.booting.read_house.Goals as goal

pub returns : goal.returns
returns c = c.take_house.ensures _ (house_begun _ _ _ _ (none_read _ _ _ _ _ c.none-none.ensures c.requires.nothing_read) c.feed-first.ensures c.requires.going)
