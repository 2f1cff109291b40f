use Rattle.std.proofs.Common.{Ok, Err}
use mathlib.Core.Path.{refl, sym, ◌∙◌}
use borrow.Author.Rules.{rules}
use Rattle.night_run.specs.Ran.{saved_over}
use Rattle.night_run.proofs.Files.{from_failed, saved_begun, saved_right}
use Rattle.night_run.proofs.restoring.restore_from.Goals as goal

pub shape_of-memory-then-failed : goal.shape_of-memory-then-failed
shape_of-memory-then-failed c = search (rules, c.read-first, c.take_saved-x)

pub returns-then-failed-clause-handed_from : goal.returns-then-failed-clause-handed_from
returns-then-failed-clause-handed_from c = let m = c.args.memory.now in let h = c.take_saved-x.ensures m _ (saved_begun m _ _ _ _ (c.begin-none.ensures _ _) c.read-first.ensures c.requires) in from_failed (saved_over m) _ _ _ _ h.0 h.1 (sym c.failed.ensures ∙ c.if-failed.true) c.none.ensures

pub returns-in-Ok-clause-handed_from : goal.returns-in-Ok-clause-handed_from
returns-in-Ok-clause-handed_from c = let m = c.args.memory.now in let h = c.take_saved-x.ensures m _ (saved_begun m _ _ _ _ (c.begin-none.ensures _ _) c.read-first.ensures c.requires) in saved_right m _ _ _ (Ok c.in-Ok.done.detail) _ _ _ h (sym c.failed.ensures ∙ c.if-failed.false) refl (c.in-Ok.ensures _ _)

pub returns-in-Err-clause-handed_from : goal.returns-in-Err-clause-handed_from
returns-in-Err-clause-handed_from c = let m = c.args.memory.now in let h = c.take_saved-x.ensures m _ (saved_begun m _ _ _ _ (c.begin-none.ensures _ _) c.read-first.ensures c.requires) in saved_right m _ _ _ (Err c.in-Err.refusal) _ _ _ h (sym c.failed.ensures ∙ c.if-failed.false) refl (rw c.none-in-Err.ensures (c.in-Err.ensures _ _))
