use Rattle.std.proofs.Common.{sym, ◌∙◌, arith}
use Rattle.decimal.specs.Texts.{ascii}
use Rattle.decimal.proofs.Texts.{exactly, nothing, roomy, ◌then◌}
use Rattle.drill_text.specs.Queues.{queue_line_of}
use Rattle.drill_text.proofs.Listed.{listed_length, listed_most}
use Rattle.drill_text.proofs.queues.queue.Goals as goal

pub returns-then-idle : goal.returns-then-idle
unfolding queue_line_of
returns-then-idle c = rw (sym c.idle.ensures ∙ c.if-idle.true) (roomy 720 nothing (omega arith))

pub slice_bounds-rest-end : goal.slice_bounds-rest-end
slice_bounds-rest-end c = sym (listed_length c.args.places.now c.listed-n.ensures)

pub returns : goal.returns
unfolding queue_line_of ascii
returns c =
    rw (sym c.idle.ensures ∙ c.if-idle.false, ← c.listed-n.ensures)
    (roomy 720 (exactly c.put_text-named.ensures then c.number-numbered.ensures then c.number-counted.ensures then c.rest.ensures)
    (omega (arith, c.requires, listed_most c.args.places.now c.listed-n.ensures)))
