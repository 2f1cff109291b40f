use mathlib.Core.Path.{sym, subst}
use Rattle.readout.specs.Printed.{printed, refusal_of}
use Rattle.night_run.specs.Ran.{either_file, Told}
use Rattle.readout.proofs.Texts.{text_refused, text_told, text_done, text_read}
use Rattle.readout.proofs.tell.Goals as goal

pub tell_read-requires : goal.tell_read-requires
tell_read-requires c =
    let a = c.args in
    let p = rw c.in-Ok.is at c.requires.told.1 in
    let q = rw c.in-Ok.is at c.requires.refusal_told.1 in
    record { told = subst (Told either_file (printed a.w) a.t) (sym (text_done a.w _ _)) p; refusal_told = subst (Told either_file (refusal_of a.w) a.t) (sym (text_read a.w _ _)) q }

pub tell_refusal-requires : goal.tell_refusal-requires
tell_refusal-requires c =
    let a = c.args in
    let p = rw c.in-Err.is at c.requires.told.1 in
    let q = rw c.in-Err.is at c.requires.refusal_told.1 in
    record { told = subst (Told either_file (printed a.w) a.t) (sym (text_refused a.w c.in-Err.refusal _)) p; refusal_told = subst (Told either_file (refusal_of a.w) a.t) (sym (text_told a.w c.in-Err.refusal _)) q }
