use Rattle.std.proofs.Common.{◌≡◌, length, take, sym, arith, length-take-le}
use Rattle.decimal.specs.Texts.{ascii}
use Rattle.decimal.proofs.Texts.{exactly, roomy, ◌then◌}
use Rattle.drill_text.specs.Lines.{output_of}
use Rattle.drill_text.proofs.lines.output.Goals as goal

pub slice_bounds-rest-end : goal.slice_bounds-rest-end
slice_bounds-rest-end c = sym (length-take-le c.args.shown c.args.words.now c.requires)

pub returns : goal.returns
unfolding output_of ascii
returns c =
    let n : length (take c.args.shown c.args.words.now) ≡ c.args.shown = length-take-le _ _ c.requires in
    roomy _ (exactly c.put_text-named.ensures then (rw c.digest-d.ensures at c.number-digested.ensures) then c.rest.ensures) (omega arith)
