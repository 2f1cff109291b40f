use Rattle.listing.proofs.Passes.{list_not, list_done}
use Rattle.listing.proofs.list.Goals as goal

pub returns-then-not-has_room : goal.returns-then-not-has_room
returns-then-not-has_room c = list_not c.args.words.now c.args.out.now c.has_room.ensures c.if-not-has_room.true

pub returns : goal.returns
returns c = list_done c.args.words.now c.args.out.now c.has_room.ensures c.if-not-has_room.false c.write_lines.ensures
