use Rattle.noon.proofs.Steps.{counts_front}
use Rattle.noon.proofs.images.lay_next.Goals as goal

-- src/images.rt:109:19
pub slice_bounds-open_image-end : goal.slice_bounds-open_image-end
slice_bounds-open_image-end c = counts_front c.name_length-n.result c.word-length.result _ c.name_length-n.ensures.upper_bound

-- src/images.rt:111:14
pub slice_bounds-fail-end : goal.slice_bounds-fail-end
slice_bounds-fail-end c = counts_front c.name_length-n.result c.word-length.result _ c.name_length-n.ensures.upper_bound

-- src/images.rt:112:9
pub returns-in-Ok : goal.returns-in-Ok
returns-in-Ok c = c.lay_open.ensures

-- src/images.rt:114:32
pub slice_bounds-lay_open-end : goal.slice_bounds-lay_open-end
slice_bounds-lay_open-end c = counts_front c.name_length-n.result c.word-length.result _ c.name_length-n.ensures.upper_bound
