use Rattle.std.proofs.Common.{◌≡◌, length, arith, rules}
use Rattle.decimal.proofs.Texts.{within}
use Rattle.drill.proofs.Commands.{played_within}
use Rattle.drill.proofs.call_turn.Goals as goal

pub flushed-used-requires : goal.flushed-used-requires
flushed-used-requires c = let n : length c.args.text.now ≡ 524288 = search rules in omega (arith, n, c.requires.goes.used)

pub play-p-requires : goal.play-p-requires
play-p-requires c = record { stands = c.requires.goes.stands; right = c.requires.at_hand; lent = c.requires.goes.lent }

pub settle-reached-requires : goal.settle-reached-requires
settle-reached-requires c = let g = c.requires.goes in let l = played_within _ _ _ _ (length c.args.memory.now) c.play-p.ensures.0 g.lent in record { stands = g.stands; memory_room = omega (arith, l, c.play-p.auto) }

pub returns : goal.returns
returns c = let z = c.settle-reached.ensures in record { stands = z.0; lent = omega (arith, z.1, c.play-p.auto); used = omega (arith, within c.play-p.ensures.1, c.flushed-used.ensures) }
