use mathlib.Core.Path.{refl, sym, ◌∙◌}
use lib.Seq.{length-take-le}
use Rattle.night_run.specs.Ran.{no_frames, either_held}
use Rattle.night_run.proofs.Files.{told_answer}
use Rattle.list.specs.Frame.{frame_text}
use Rattle.list.proofs.frame.list_frame.Goals as goal

pub hold_file-x-requires : goal.hold_file-x-requires
unfolding no_frames
hold_file-x-requires c = refl

pub slice_bounds-memory-end : goal.slice_bounds-memory-end
slice_bounds-memory-end c = c.hold_file-x.ensures.words_in_bounds

pub slice_bounds-tell-end : goal.slice_bounds-tell-end
slice_bounds-tell-end c = sym (length-take-le _ _ c.hold_file-x.ensures.words_in_bounds)

pub tell-requires : goal.tell-requires
tell-requires c = record { frame_bound = c.requires; told = (_, told_answer either_held (frame_text c.args.frame) c.hold_file-x.result _ c.hold_file-x.ensures.handed (sym c.failed.ensures ∙ c.if-failed.false)) }
