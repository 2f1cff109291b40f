use lib.Seq.{length-take-le}
use native.Mathlib.Omega.{arith}
use Rattle.resume.proofs.Laws.{resume_done}
use Rattle.resume.proofs.runs.run_from.Goals as goal

pub slice_bounds-run_on-end : goal.slice_bounds-run_on-end
slice_bounds-run_on-end c = c.requires

pub returns-clause-handed : goal.returns-clause-handed
returns-clause-handed c h f detail z =
    let a = c.args in
    let m = a.memory.now in
    resume_done a.steps a.x m h _ _ _ _ detail f z (omega (arith, c.run_on-outcome.auto, length-take-le a.x.words m c.requires)) c.run_on-outcome.ensures
