use Rattle.std.proofs.lemmas.Result.{err_from_is_err_and}
use Rattle.drill.specs.Player.{read_out_of}
use Rattle.drill.proofs.calls.read_out.Goals as goal

pub returns-in_err-read_out : goal.returns-in_err-read_out
unfolding read_out_of
returns-in_err-read_out c =
    let p = err_from_is_err_and c.from_residual.result c.from_residual.ensures.1 in
    rw (p.1, p.2) (simp (c.mark.ensures, c.word-2.ensures, c.word.ensures) at c.in_err-read_out.ensures)

pub returns : goal.returns
unfolding read_out_of
returns c = rw (c.word-2.ensures, c.word.ensures) (simp (c.mark.ensures, c.word-2.ensures, c.word.ensures) at c.in_ok-read_out.ensures)
