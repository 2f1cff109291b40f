use mathlib.Core.Path.{refl, sym, ◌∙◌}
use Rattle.report.specs.Printed.{printed}
use lib.Seq.{length-take-le}
use Rattle.night_run.specs.Ran.{house_file_by, no_frames}
use Rattle.night_run.proofs.Files.{told_by_lem, told_as, left_as}
use Rattle.night.proofs.Texts.{printed_by}
use Rattle.night.proofs.night.Goals as goal

pub run_file-x-requires : goal.run_file-x-requires
unfolding no_frames
run_file-x-requires c = refl

pub slice_bounds-memory-end : goal.slice_bounds-memory-end
slice_bounds-memory-end c = c.run_file-x.ensures.words_in_bounds

pub slice_bounds-saved-end : goal.slice_bounds-saved-end
slice_bounds-saved-end c = sym (length-take-le _ _ c.run_file-x.ensures.words_in_bounds)

pub saved-requires : goal.saved-requires
saved-requires c =
    left_as (house_file_by _) printed c.run_file-x.result _ c.run_file-x.ensures.handed (sym c.failed.ensures ∙ c.if-failed.false) _ c.answer-answer.ensures

pub tell-requires : goal.tell-requires
tell-requires c = (
  _,
  _,
  told_by_lem _ printed (printed_by _) _ _
      (told_as (house_file_by _) printed c.run_file-x.result _ c.run_file-x.ensures.handed (sym c.failed.ensures ∙ c.if-failed.false) _ c.answer-answer.ensures),
)
