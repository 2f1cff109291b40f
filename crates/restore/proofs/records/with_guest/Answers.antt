use Rattle.std.proofs.Common.{◌≡◌, length, arith, length-drop, length-take, length-take-le, sym, get_or-drop, rules}
use Rattle.save.specs.Reading.{with_guest}
use Rattle.restore.proofs.Bodies.{first_words, last_words}
use Rattle.restore.proofs.records.with_guest.Goals as goal

pub put_part-requires : goal.put_part-requires
put_part-requires c = let l : length c.args.h.regs ≡ 256 = search rules in record { list_room = omega (arith, l, c.wide-i.ensures, c.requires.count_bound); words_length = omega (arith, length-take 32 c.args.words.now) }

pub returns : goal.returns
unfolding with_guest
returns c = let w = c.args.words.now in let l = c.requires.words_room in simp (c.put_part.ensures, c.put_part-2.ensures, c.guest_of.ensures, c.wide-i.ensures, first_words w l, last_words w l, get_or-drop, length-drop)

pub slice_bounds-put_part-end-2 : goal.slice_bounds-put_part-end-2
slice_bounds-put_part-end-2 c = sym (length-take-le 32 c.args.words.now (omega (arith, c.requires.words_room)))
