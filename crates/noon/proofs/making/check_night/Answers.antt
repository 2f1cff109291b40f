use lib.ListN.{length-replicate}
use Prim.Native.Nat.{ℕ}
use Rattle.std.proofs.lemmas.Result.{err_from_is_err_and}
use Rattle.noon.proofs.Refused.{boot_refuses, run_refuses, boot_lists, listed_on}
use Rattle.noon.proofs.making.check_night.Goals as goal

pub returns-in_err-booted-clause-by_index : goal.returns-in_err-booted-clause-by_index
returns-in_err-booted-clause-by_index c =
    let a = c.args in
    let p = err_from_is_err_and c.from_residual.result c.from_residual.ensures.1 in
    rw (p.1, p.2) (boot_refuses a.pages.now a.frames.now _ a.q a.run (length-replicate {A = ℕ} 16384 0) _ c.in_err-booted.ensures)

pub returns : goal.returns
returns c =
    let a = c.args in
    let b = c.in_ok-booted.booted in
    record {
      by_index = run_refuses a.pages.now a.frames.now _ a.q a.run (length-replicate {A = ℕ} 16384 0) b.detail b.house c.in_ok-booted.ensures c.check_run.result c.check_run.ensures;
      listed = listed_on c.check_run.result (boot_lists a.pages.now a.frames.now _ a.q a.run (length-replicate {A = ℕ} 16384 0) b.detail b.house c.in_ok-booted.ensures c.requires);
    }
