-- The examples hold.
use mathlib.Core.Path.{◌≡◌, refl}
use mathlib.Core.Bool.{true, ◌&&◌}
use Rattle.dlx.specs.Parts.{inner, outer}
use Rattle.tickets.specs.Queues.{queue_of}
use Rattle.house.specs.Lists.{list_from, any}
use Rattle.house.specs.House.{fresh_shadows}
use Rattle.house.specs.Damage.{damaged, outside_limits, frame_twice, turn_wrong, registers_wrong}
use Rattle.house.specs.Boot.{first_of}
use Rattle.housefile.specs.Records.{number, words_of}
use Rattle.save.specs.Saved.{little, all_bytes, record_of, records, turn_words, guest_words, ticket_words, frame_words, file_of}
use Rattle.save.specs.Reading.{padded, turned, guest_of, with_guest, with_tickets, may_come, content_right, taken, settled, took, fed, lent}
use Rattle.save.specs.Calls.{read_piece, read_verdict, finished}
use Rattle.save.specs.Whole.{record_right, says_from, says_of, answer_to}
use Rattle.save.specs.Examples.{same, all, times, upwards, regs, first, second, small, small_bytes, framed, framed_bytes, made, turns_in, guest, queue, frame, end, five, one, is_wrong, is_right, is_other, wrong_at, right_to, gives, bytes_wrong, files, fronts, backs, two, memories, refusals, housed, told, undamaged_so, damages, large, lengths}

pub checked : (all files && all fronts && all backs && all memories && all refusals && all damages && all lengths) ≡ true
checked = rw (of_files, of_fronts, of_backs, of_memories, of_refusals, of_damages, of_lengths)
  where
    of_files : all files ≡ true
    of_files = unfold same all times upwards regs first second small small_bytes framed framed_bytes made turns_in guest queue frame end five one is_wrong is_right is_other wrong_at right_to gives bytes_wrong files fronts backs two memories refusals housed told undamaged_so damages large lengths inner outer queue_of list_from any fresh_shadows damaged outside_limits first_of number words_of little all_bytes record_of records turn_words guest_words ticket_words frame_words file_of padded turned guest_of with_guest with_tickets may_come content_right taken settled took fed lent read_piece read_verdict finished record_right says_from says_of answer_to in refl

    of_fronts : all fronts ≡ true
    of_fronts = unfold same all times upwards regs first second small small_bytes framed framed_bytes made turns_in guest queue frame end five one is_wrong is_right is_other wrong_at right_to gives bytes_wrong files fronts backs two memories refusals housed told undamaged_so damages large lengths inner outer queue_of list_from any fresh_shadows damaged outside_limits first_of number words_of little all_bytes record_of records turn_words guest_words ticket_words frame_words file_of padded turned guest_of with_guest with_tickets may_come content_right taken settled took fed lent read_piece read_verdict finished record_right says_from says_of answer_to in refl

    of_backs : all backs ≡ true
    of_backs = unfold same all times upwards regs first second small small_bytes framed framed_bytes made turns_in guest queue frame end five one is_wrong is_right is_other wrong_at right_to gives bytes_wrong files fronts backs two memories refusals housed told undamaged_so damages large lengths inner outer queue_of list_from any fresh_shadows damaged outside_limits first_of number words_of little all_bytes record_of records turn_words guest_words ticket_words frame_words file_of padded turned guest_of with_guest with_tickets may_come content_right taken settled took fed lent read_piece read_verdict finished record_right says_from says_of answer_to in refl

    of_memories : all memories ≡ true
    of_memories = unfold same all times upwards regs first second small small_bytes framed framed_bytes made turns_in guest queue frame end five one is_wrong is_right is_other wrong_at right_to gives bytes_wrong files fronts backs two memories refusals housed told undamaged_so damages large lengths inner outer queue_of list_from any fresh_shadows damaged outside_limits first_of number words_of little all_bytes record_of records turn_words guest_words ticket_words frame_words file_of padded turned guest_of with_guest with_tickets may_come content_right taken settled took fed lent read_piece read_verdict finished record_right says_from says_of answer_to in refl

    of_refusals : all refusals ≡ true
    of_refusals = unfold same all times upwards regs first second small small_bytes framed framed_bytes made turns_in guest queue frame end five one is_wrong is_right is_other wrong_at right_to gives bytes_wrong files fronts backs two memories refusals housed told undamaged_so damages large lengths inner outer queue_of list_from any fresh_shadows damaged outside_limits first_of number words_of little all_bytes record_of records turn_words guest_words ticket_words frame_words file_of padded turned guest_of with_guest with_tickets may_come content_right taken settled took fed lent read_piece read_verdict finished record_right says_from says_of answer_to in refl

    of_damages : all damages ≡ true
    of_damages = unfold same all times upwards regs first second small small_bytes framed framed_bytes made turns_in guest queue frame end five one is_wrong is_right is_other wrong_at right_to gives bytes_wrong files fronts backs two memories refusals housed told undamaged_so damages large lengths inner outer queue_of list_from any fresh_shadows damaged outside_limits frame_twice turn_wrong registers_wrong first_of number words_of little all_bytes record_of records turn_words guest_words ticket_words frame_words file_of padded turned guest_of with_guest with_tickets may_come content_right taken settled took fed lent read_piece read_verdict finished record_right says_from says_of answer_to in refl

    of_lengths : all lengths ≡ true
    of_lengths = unfold same all times upwards regs first second small small_bytes framed framed_bytes made turns_in guest queue frame end five one is_wrong is_right is_other wrong_at right_to gives bytes_wrong files fronts backs two memories refusals housed told undamaged_so damages large lengths inner outer queue_of list_from any fresh_shadows damaged outside_limits first_of number words_of little all_bytes record_of records turn_words guest_words ticket_words frame_words file_of padded turned guest_of with_guest with_tickets may_come content_right taken settled took fed lent read_piece read_verdict finished record_right says_from says_of answer_to in refl
