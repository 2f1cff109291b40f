use Rattle.std.proofs.Common.{arith, sym, ◌∙◌}
use Rattle.list.proofs.Frames.{counted, frame_none, frame_part, frame_whole}
use borrow.Author.Rules.{rules}
use Rattle.list.proofs.frame.put_frame.Goals as goal

pub returns-then-from-size : goal.returns-then-from-size
returns-then-from-size c = record { out_after = frame_none _ _ _ (omega (arith, c.if-from-size.true)); counts = search rules }

pub returns-then-size-from-lt1024 : goal.returns-then-size-from-lt1024
returns-then-size-from-lt1024 c = let n = counted c.list.result c.list.new.out c.unwrap_or.ensures in let q = frame_part _ _ _ _ _ _ _ c.if-size-from-lt1024.true c.requires.out_length (sym n.1.1 ∙ c.list.ensures) in record { out_after = q.0; counts = q.1 }

pub returns : goal.returns
returns c = let n = counted c.list-2.result c.list-2.new.out c.unwrap_or-2.ensures in let q = frame_whole _ _ _ _ _ _ _ c.requires.out_length (sym n.1.1 ∙ c.list-2.ensures) in record { out_after = q.0; counts = q.1 }
