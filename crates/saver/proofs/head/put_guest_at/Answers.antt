use Rattle.saver.proofs.Heads.{guest_there}
use Rattle.saver.proofs.head.put_guest_at.Goals as goal

-- src/head.rt:112:1
pub returns : goal.returns
returns c = guest_there c.args.p c.args.running c.args.regs.now c.args.frames.now c.args.k _ c.wide.ensures c.requires.pages_bound c.put_guest.ensures
