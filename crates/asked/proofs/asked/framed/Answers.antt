use Rattle.std.proofs.Common.{◌≡◌, ◌+◌, arith}
use Rattle.asked.proofs.Taken.{framed_wrong, framed_right}
use Rattle.asked.proofs.asked.framed.Goals as goal

pub returns-in-Err : goal.returns-in-Err
returns-in-Err c = λ table.
    let a = c.args in
    framed_wrong a.a a.pages.now a.frames.now table a.word.now c.row_of.new.frames c.row_of.ensures.frames_after c.in-Err.field-0 c.in-Err.ensures.value

pub returns : goal.returns
returns c = λ table.
    let a = c.args in
    let z : a.a.owner + 0 ≡ a.a.owner = omega arith in
    rw (c.put_at.ensures, z) (framed_right a.a a.pages.now a.frames.now table a.word.now c.row_of.new.frames c.row_of.ensures.frames_after c.in-Ok.count c.in-Ok.ensures.value)
