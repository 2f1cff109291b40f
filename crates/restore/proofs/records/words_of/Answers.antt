use Rattle.std.proofs.Common.{refl, arith, length-take-le}
use Rattle.housefile.specs.Records.{words_of}
use Rattle.restore.proofs.Bodies.{words_step}
use Rattle.restore.proofs.records.words_of.Goals as goal

pub loop-i-init : goal.loop-i-init
unfolding words_of
loop-i-init c = refl

pub loop-i-preserved : goal.loop-i-preserved
loop-i-preserved c =
    let a = c.args in
    let n = length-take-le a.n a.words.now c.requires.words_room in
    words_step a.held.now c.loop-i.w-items c.loop-i.i _ (omega (arith, c.requires.held_room)) (omega arith) c.loop-i.invariant c.word.ensures
