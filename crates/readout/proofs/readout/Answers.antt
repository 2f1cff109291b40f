use mathlib.Core.Path.{refl, sym, ◌∙◌}
use Rattle.readout.specs.Printed.{printed, refusal_of}
use lib.Seq.{length-take-le}
use Rattle.night_run.specs.Ran.{either_file, no_frames}
use Rattle.night_run.proofs.Files.{told_as}
use Rattle.readout.proofs.readout.Goals as goal

pub read_file-x-requires : goal.read_file-x-requires
unfolding no_frames
read_file-x-requires c = refl

pub slice_bounds-memory-end : goal.slice_bounds-memory-end
slice_bounds-memory-end c = c.read_file-x.ensures.words_in_bounds

pub slice_bounds-tell-end : goal.slice_bounds-tell-end
slice_bounds-tell-end c = sym (length-take-le _ _ c.read_file-x.ensures.words_in_bounds)

pub tell-requires : goal.tell-requires
tell-requires c =
    let f = sym c.failed.ensures ∙ c.if-failed.false in record {
      told = (_, told_as either_file (printed c.args.w) c.read_file-x.result _ c.read_file-x.ensures.handed f _ c.answer.ensures);
      refusal_told = (_, told_as either_file (refusal_of c.args.w) c.read_file-x.result _ c.read_file-x.ensures.handed f _ c.answer.ensures);
    }
