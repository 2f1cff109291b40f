use Rattle.std.proofs.Common.{arith}
use Rattle.decimal.proofs.Texts.{◌then◌, roomy}
use Rattle.drill.specs.Told.{most_read}
use Rattle.drill.specs.Saving.{save_text_of}
use Rattle.drill.proofs.saving.save.Goals as goal

pub returns-in-Ok : goal.returns-in-Ok
unfolding save_text_of
returns-in-Ok c = rw (← c.in-Ok.ensures) (roomy most_read (c.call-called.ensures then c.written.ensures) (omega arith))

pub returns-in-Err : goal.returns-in-Err
unfolding save_text_of
returns-in-Err c = rw (← c.in-Err.ensures, ← c.number.ensures, ← c.detail-detail.ensures) (roomy most_read (c.call-called-in-Err.ensures then c.written-in-Err.ensures) (omega arith))
