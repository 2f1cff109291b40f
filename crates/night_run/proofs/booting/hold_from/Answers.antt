use Rattle.night_run.proofs.Files.{house_start}
use Rattle.night_run.proofs.booting.hold_from.Goals as goal

pub read_house-x-requires : goal.read_house-x-requires
read_house-x-requires c = record { going = c.requires.going; nothing_read = house_start _ c.requires.memory_zeros }

pub returns : goal.returns
returns c = record { handed_from = c.held_house.ensures.handed_from _ _ _ _ c.read_house-x.ensures; words_in_bounds = c.held_house.ensures.words_in_bounds }
