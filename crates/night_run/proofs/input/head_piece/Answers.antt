use Prim.Native.Nat.{◌-◌}
use borrow.Rule.Slice.PartMut.{post_of}
use native.Mathlib.Omega.{arith}
use borrow.Author.Rules.{rules}
use Rattle.night_run.proofs.Pieces.{part_back, read_added}
use Rattle.night_run.proofs.input.head_piece.Goals as goal

pub returns : goal.returns
returns c = let r = c.take_piece in let e = r.ensures in let b = r.new.buffer in let n = c.args.t.bytes in let head = c.args.head.now in (b, e.one_read, search rules, part_back n r.result.taken.bytes r.result.count head b (post_of n (22 - n) head) (omega (arith, c.requires.bytes_bound, c.requires.head_length)) (read_added _ _ _ _ e.one_read).count)
