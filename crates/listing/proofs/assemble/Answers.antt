use Rattle.std.proofs.lemmas.Result.{err_from_is_err_and}
use Rattle.listing.proofs.Passes.{assembled_wrong, assembled_short, assembled_done}
use Rattle.listing.proofs.assemble.Goals as goal

pub returns-in_err-lines : goal.returns-in_err-lines
returns-in_err-lines c = let p = err_from_is_err_and c.from_residual.result c.from_residual.ensures.1 in rw (p.1, p.2) (assembled_wrong c.args.text.now c.args.out.now _ c.in_err-lines.ensures)

pub returns-then-out-lines : goal.returns-then-out-lines
returns-then-out-lines c = assembled_short c.args.text.now c.args.out.now _ c.in_ok-lines.ensures c.if-out-lines.true

pub returns : goal.returns
returns c = assembled_done c.args.text.now c.args.out.now _ c.in_ok-lines.ensures c.if-out-lines.false c.write_words.ensures
