use mathlib.Core.Path.{◌≡◌, sym, subst}
use Rattle.readout.specs.Printed.{printed, refusal_of}
use Rattle.night_run.specs.Ran.{either_file, Told}
use Rattle.readout.proofs.Texts.{read_refused, read_told, read_there, read_done, read_fits}
use borrow.Author.Rules.{rules}
use Rattle.house.specs.declared.refusal.Refusal.TheVariants.{BeyondPages}
use Rattle.readout.proofs.tell_read.Goals as goal

pub tell_words-requires : goal.tell_words-requires
tell_words-requires c = let a = c.args in record { count_bound = read_fits a.w _ _ _ _ _ c.in-Ok.ensures c.told-words; told = subst (Told either_file (printed a.w) a.t) (sym (read_done a.w _ _ _ _ _ c.in-Ok.ensures)) c.requires.told }

pub tell_refusal-requires : goal.tell_refusal-requires
tell_refusal-requires c = let a = c.args in record { told = subst (Told either_file (printed a.w) a.t) (sym (read_refused a.w _ _ _ _ c.in-Err.refusal c.in-Err.ensures)) c.requires.told; refusal_told = subst (Told either_file (refusal_of a.w) a.t) (sym (read_told a.w _ _ _ _ c.in-Err.refusal c.in-Err.ensures)) c.requires.refusal_told }

pub tell_reason-requires : goal.tell_reason-requires
tell_reason-requires c =
    let e : c.in-Err.refusal ≡ BeyondPages = search rules in read_there c.args.w _ _ _ _ (rw e at c.in-Err.ensures)
