use mathlib.Core.Path.{sym, ◌∙◌}
use native.Mathlib.Omega.{arith}
use lib.Seq.{length-take-le}
use Rattle.std.proofs.lemmas.Result.{err_from_is_err_and}
use Rattle.night_run.proofs.Files.{lists_taken, boot_refused, boot_done}
use Rattle.night_run.proofs.booting.after_boot.Goals as goal

pub slice_bounds-boot-end : goal.slice_bounds-boot-end
slice_bounds-boot-end c = sym (length-take-le _ _ (omega (arith, c.lists-n.ensures)))

pub slice_bounds-boot-end-2 : goal.slice_bounds-boot-end-2
slice_bounds-boot-end-2 c = sym (length-take-le _ _ (omega (arith, c.total-k.ensures)))

pub returns-in_err-booted : goal.returns-in_err-booted
returns-in_err-booted c =
    let p = err_from_is_err_and c.from_residual.result c.from_residual.ensures.1 in
    rw (p.1, p.2, c.requires) (boot_refused _ _ _ _ _ _ _ (c.in_err-booted.ensures ∙ lists_taken _ _ _ _ _ _ _ _ c.lists-n.ensures c.total-k.ensures))

pub returns-in_err-ran : goal.returns-in_err-ran
returns-in_err-ran c =
    let p = err_from_is_err_and c.from_residual-in_err-ran.result c.from_residual-in_err-ran.ensures.1 in
    rw (p.1, p.2) (c.in_err-ran.ensures ∙ boot_done _ _ _ _ _ _ _ _ (c.in_ok-booted.ensures ∙ lists_taken _ _ _ _ _ _ _ _ c.lists-n.ensures c.total-k.ensures))

pub returns : goal.returns
returns c = c.in_ok-ran.ensures ∙ boot_done _ _ _ _ _ _ _ _ (c.in_ok-booted.ensures ∙ lists_taken _ _ _ _ _ _ _ _ c.lists-n.ensures c.total-k.ensures)
