use Rattle.engine.specs.Answers.{room_of}
use Rattle.std.proofs.Common.{le-ltb, lt-ltb, eq-eqb, ne_eqb}
use Rattle.engine.proofs.room.Goals as goal

-- src/lib.rt:335:9
pub returns-then-k-eq0 : goal.returns-then-k-eq0
unfolding room_of
returns-then-k-eq0 c = simp (eq-eqb _ _ c.if-k-eq0.true)

-- src/lib.rt:338:9
pub returns-then-rest-k : goal.returns-then-rest-k
unfolding room_of
returns-then-rest-k c = simp (ne_eqb _ _ c.if-k-eq0.false, lt-ltb _ _ c.if-rest-k.true)

-- src/lib.rt:331:1
pub returns : goal.returns
unfolding room_of
returns c = simp (ne_eqb _ _ c.if-k-eq0.false, le-ltb _ _ c.if-rest-k.false)
