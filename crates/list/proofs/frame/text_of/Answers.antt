use mathlib.Core.Path.{refl}
use native.Mathlib.Omega.{arith}
use Rattle.house.proofs.Refusals.{not_0}
use Rattle.report.proofs.Texts.{whole_is, put_as}
use Rattle.list.specs.Frame.{frame_text}
use Rattle.list.proofs.frame.text_of.Goals as goal

pub returns-in-Ok-clause-out_after : goal.returns-in-Ok-clause-out_after
unfolding frame_text
returns-in-Ok-clause-out_after c h = rw c.in-Ok.is c.put_frame.ensures.out_after

pub returns-in-Err-clause-out_after : goal.returns-in-Err-clause-out_after
unfolding frame_text
returns-in-Err-clause-out_after c h =
    let e = whole_is c.put_refusal.ensures (omega (arith, c.requires.out_length)) in rw (c.in-Err.is, not_0 c.in-Err.refusal) (put_as _ _ _ _ _ e.0.0 e.0.1 refl)

pub returns-in-Err-clause-counts : goal.returns-in-Err-clause-counts
returns-in-Err-clause-counts c = (whole_is c.put_refusal.ensures (omega (arith, c.requires.out_length))).1
