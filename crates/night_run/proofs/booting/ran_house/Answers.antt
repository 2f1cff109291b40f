use mathlib.Core.Path.{refl, sym, ◌∙◌}
use Rattle.night_run.specs.Ran.{ran_by, house_file_by}
use Rattle.night_run.proofs.Files.{ran_refuses, file_done, from_failed, house_wrong, house_right}
use Rattle.night_run.proofs.booting.ran_house.Goals as goal

pub returns-then-failed-clause-by_index : goal.returns-then-failed-clause-by_index
returns-then-failed-clause-by_index c head h = from_failed (house_file_by _) head _ _ _ h.0 h.1 (sym c.failed.ensures ∙ c.if-failed.true) c.none.ensures

pub returns-in-Ok-clause-by_index : goal.returns-in-Ok-clause-by_index
returns-in-Ok-clause-by_index c head h = house_right (ran_by _) head _ _ _ _ _ _ _ h.1 h.2 (sym c.failed.ensures ∙ c.if-failed.false) _ _ _ _ refl (c.after_boot-outcome.ensures ∙ file_done _ _ (c.in-Ok.ensures _ _ _ _))

pub returns-in-Err-clause-by_index : goal.returns-in-Err-clause-by_index
returns-in-Err-clause-by_index c head h = house_wrong (ran_by _) head _ _ _ _ _ _ _ h.1 h.2 (sym c.failed.ensures ∙ c.if-failed.false) (ran_refuses _) _ (c.in-Err.ensures _ _ _ _) _ _ c.none-in-Err.ensures
