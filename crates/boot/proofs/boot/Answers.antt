use mathlib.Core.Path.{sym, ap}
use lib.ListN.{length}
use Rattle.std.proofs.lemmas.Result.{err_from_is_err_and}
use Rattle.house.specs.Boot.{Verdict}
use Rattle.house.specs.Calls.{boot_call}
use Rattle.house.proofs.Refusals.{leaves_given, leaves_done}
use Rattle.boot.proofs.Places.{fitting}
use Rattle.boot.proofs.boot.Goals as goal

pub returns-in_err-check : goal.returns-in_err-check
unfolding boot_call
returns-in_err-check c =
    let p = err_from_is_err_and c.from_residual.result c.from_residual.ensures.1 in
    rw (p.1, p.2) (leaves_given _ _ _ c.in_err-check.ensures)

pub booted-house-requires : goal.booted-house-requires
booted-house-requires c =
    let a = c.args in
    let q = fitting a.pages.now a.q a.frames.now (length a.memory.now) (ap (λ (v : Verdict). v.number) (sym c.in_ok-check.ensures)) in
    record { fitting = q.0; words_bound = q.1 }

pub returns : goal.returns
unfolding boot_call
returns c = rw c.booted-house.ensures (leaves_done _ _ 0 c.in_ok-check.ensures)
