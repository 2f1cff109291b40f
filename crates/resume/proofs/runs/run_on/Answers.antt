use mathlib.Core.Path.{refl, ◌∙◌}
use native.Mathlib.Omega.{arith}
use Rattle.std.proofs.lemmas.Result.{err_from_is_err_and}
use Rattle.resume.proofs.Laws.{on_more, on_refused, on_last}
use Rattle.resume.proofs.runs.run_on.Goals as goal

pub loop-left-init : goal.loop-left-init
loop-left-init c = (refl, refl)

pub returns-in_err-done : goal.returns-in_err-done
returns-in_err-done c =
    let p = err_from_is_err_and c.from_residual.result c.from_residual.ensures.1 in
    rw (p.1, p.2) (on_refused _ _ _ _ c.loop-left-test.true c.in_err-done.ensures ∙ c.loop-left.invariant.0)

pub loop-left-preserved : goal.loop-left-preserved
loop-left-preserved c = (on_more _ _ _ _ c.loop-left-test.true c.in_ok-done.ensures ∙ c.loop-left.invariant.0, omega (arith, c.loop-left.invariant.1, c.run.auto))

pub returns-in_err-done-2 : goal.returns-in_err-done-2
returns-in_err-done-2 c =
    let p = err_from_is_err_and c.from_residual-in_err-done-2.result c.from_residual-in_err-done-2.ensures.1 in
    rw (p.1, p.2) (c.in_err-done-2.ensures ∙ on_last _ _ c.loop-left-test.false ∙ c.loop-left.invariant.0)

pub returns : goal.returns
returns c = c.in_ok-done-2.ensures ∙ on_last _ _ c.loop-left-test.false ∙ c.loop-left.invariant.0
