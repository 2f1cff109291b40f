use Rattle.std.proofs.Common.{arith}
use Rattle.saver.proofs.Heads.{guest_put}
use Rattle.saver.proofs.head.put_guest.Goals as goal

pub returns : goal.returns
returns c = guest_put _ c.args.regs.now c.args.p c.args.running c.args.frames.now (omega arith) c.requires.regs_length c.requires.frames_length c.put_front-front.ensures c.put_words-first.ensures (rw c.scalar_words.ensures at c.put_words-second.ensures) c.put_words.ensures
