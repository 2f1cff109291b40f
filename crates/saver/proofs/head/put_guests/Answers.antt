use Rattle.std.proofs.Common.{arith}
use Rattle.decimal.proofs.Texts.{parts_begin, parts_on, parts_end}
use Rattle.saver.specs.Heads.{guest_record}
use Rattle.saver.proofs.head.put_guests.Goals as goal

pub loop-k-init : goal.loop-k-init
loop-k-init c = parts_begin (guest_record c.args.parts c.args.running c.args.regs.now c.args.frames.now) 1230

pub loop-k-preserved : goal.loop-k-preserved
loop-k-preserved c = parts_on (guest_record c.args.parts c.args.running c.args.regs.now c.args.frames.now) 1230 c.loop-k.k c.loop-k.invariant c.put_guest_at-end.ensures

pub returns : goal.returns
returns c = parts_end (guest_record c.args.parts c.args.running c.args.regs.now c.args.frames.now) 1230 c.loop-k.k c.args.count (omega arith) (omega arith) c.loop-k.invariant
