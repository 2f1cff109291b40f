use mathlib.Core.Path.{refl}
use native.Mathlib.Omega.{arith}
use Rattle.decimal.proofs.Texts.{parts_begin, parts_on, parts_end}
use Rattle.contents.specs.Contents.{frame_record}
use Rattle.contents.proofs.put_frames.Goals as goal

-- src/lib.rt:55:5
pub loop-f-init : goal.loop-f-init
loop-f-init c = (parts_begin (frame_record c.args.memory.now) 4106, refl)

-- src/lib.rt:55:5
pub loop-f-preserved : goal.loop-f-preserved
loop-f-preserved c = (parts_on (frame_record c.args.memory.now) 4106 c.loop-f.f c.loop-f.invariant.0 c.put_frame-end.ensures, omega arith)

-- src/lib.rt:49:1
pub returns : goal.returns
returns c = parts_end (frame_record c.args.memory.now) 4106 c.loop-f.f 16 (omega arith) c.loop-f-test.false c.loop-f.invariant.0
