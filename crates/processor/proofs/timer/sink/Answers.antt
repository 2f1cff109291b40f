use Rattle.std.proofs.Common.{◌≡◌, ◌-◌, arith}
use Rattle.processor.proofs.timer.sink.Goals as goal

-- src/timer.rt:54:9
pub returns-then-k-n : goal.returns-then-k-n
returns-then-k-n c = let e : c.args.k.tcount - c.args.n ≡ 0 = omega (arith, c.if-k-n.true) in simp e
