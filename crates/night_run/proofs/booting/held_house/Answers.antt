use mathlib.Core.Path.{refl, sym, ◌∙◌}
use Rattle.night_run.specs.Ran.{held_of, held_file}
use Rattle.night_run.proofs.Files.{held_refuses, from_failed, house_wrong, house_held}
use Rattle.night_run.proofs.booting.held_house.Goals as goal

pub returns-then-failed-clause-handed_from : goal.returns-then-failed-clause-handed_from
returns-then-failed-clause-handed_from c head turns pages frames h = from_failed held_file head _ _ _ h.0 h.1 (sym c.failed.ensures ∙ c.if-failed.true) c.none.ensures

pub returns-in-Ok-clause-handed_from : goal.returns-in-Ok-clause-handed_from
returns-in-Ok-clause-handed_from c head turns pages frames h = house_held head _ _ _ _ _ _ _ h.1 h.2 (sym c.failed.ensures ∙ c.if-failed.false) (c.in-Ok.ensures _ _ _ _) _ _ c.none-in-Ok.ensures refl

pub returns-in-Err-clause-handed_from : goal.returns-in-Err-clause-handed_from
returns-in-Err-clause-handed_from c head turns pages frames h = house_wrong held_of head _ _ _ _ _ _ _ h.1 h.2 (sym c.failed.ensures ∙ c.if-failed.false) held_refuses _ (c.in-Err.ensures _ _ _ _) _ _ c.none-in-Err.ensures
