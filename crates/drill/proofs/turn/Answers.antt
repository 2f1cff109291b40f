use Rattle.std.proofs.Common.{◌≡◌, length, arith, rules}
use Rattle.drill.proofs.turn.Goals as goal

pub save_turn-requires : goal.save_turn-requires
save_turn-requires c = let n : length c.args.output.now ≡ 70000 = search rules in record { goes = c.requires.goes; at_hand = c.requires.at_hand; output_room = omega (arith, n) }

pub returns-in-Save : goal.returns-in-Save
returns-in-Save c = c.save_turn.ensures

pub call_turn-requires : goal.call_turn-requires
call_turn-requires c = record { goes = c.requires.goes; at_hand = c.requires.at_hand }

pub returns-in_default : goal.returns-in_default
returns-in_default c = c.call_turn.ensures
