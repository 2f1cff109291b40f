use mathlib.Core.Path.{refl, sym, ◌∙◌}
use lib.ListN.{take}
use lib.Seq.{length-take-le}
use Rattle.night_run.specs.Ran.{either_file, no_frames}
use Rattle.night_run.proofs.Files.{told_answer}
use Rattle.audit.specs.Printed.{printed, named}
use Rattle.audit.proofs.audit.Goals as goal

pub read_file-x-requires : goal.read_file-x-requires
unfolding no_frames
read_file-x-requires c = refl

pub slice_bounds-tell-end : goal.slice_bounds-tell-end
slice_bounds-tell-end c = sym (length-take-le _ _ c.read_file-x.ensures.words_in_bounds)

pub tell-requires : goal.tell-requires
tell-requires c =
    let x = c.read_file-x in
    let f = sym c.failed.ensures ∙ c.if-failed.false in
    let e = c.answer.ensures (take x.result.words x.new.memory) in
    record {
      told = (x.result.house, rw e (told_answer either_file printed x.result x.new.memory x.ensures.handed f));
      named_told = (x.result.house, rw e (told_answer either_file named x.result x.new.memory x.ensures.handed f));
    }
