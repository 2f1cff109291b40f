use mathlib.Core.Path.{refl, sym, ◌∙◌}
use Rattle.report.specs.Printed.{printed}
use Rattle.resume.specs.Resumed.{resumed_file}
use lib.Seq.{length-take-le}
use Rattle.night_run.specs.Ran.{no_frames}
use Rattle.night_run.proofs.Files.{told_as, left_as}
use Rattle.resume.proofs.resume.Goals as goal

pub resume_file-x-requires : goal.resume_file-x-requires
unfolding no_frames
resume_file-x-requires c = refl

pub slice_bounds-memory-end : goal.slice_bounds-memory-end
slice_bounds-memory-end c = c.resume_file-x.ensures.words_in_bounds

pub slice_bounds-saved-end : goal.slice_bounds-saved-end
slice_bounds-saved-end c = sym (length-take-le _ _ c.resume_file-x.ensures.words_in_bounds)

pub saved-requires : goal.saved-requires
saved-requires c =
    left_as (resumed_file _) printed c.resume_file-x.result _ c.resume_file-x.ensures.handed (sym c.failed.ensures ∙ c.if-failed.false) _ c.answer-answer.ensures

pub tell-requires : goal.tell-requires
tell-requires c = (
  _,
  _,
  told_as (resumed_file _) printed c.resume_file-x.result _ c.resume_file-x.ensures.handed (sym c.failed.ensures ∙ c.if-failed.false) _ c.answer-answer.ensures,
)
