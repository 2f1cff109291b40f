use Rattle.night_run.proofs.Pieces.{moved_within}
use Rattle.night_run.proofs.input.take_piece.Goals as goal

pub returns : goal.returns
returns c = let r = c.read-answer in let e = c.after_read.ensures in record { one_read = record { answer = r.result.brought; fits = e.bytes_bound; moved = moved_within _ _ r.ensures; bytes = e.bytes; stands = e.taken_value; new = e.buffer_value }; prefix_len = e.prefix_len }
