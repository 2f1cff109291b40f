use Rattle.std.proofs.lemmas.Result.{err_from_is_err_and}
use Rattle.asked.proofs.Taken.{took_wrong}
use Rattle.asked.proofs.asked.took_word.Goals as goal

pub returns-in_err-a : goal.returns-in_err-a
returns-in_err-a c =
    let a = c.args in
    let p = err_from_is_err_and c.from_residual.result c.from_residual.ensures.1 in
    rw (p.1, p.2) (took_wrong a.a _ a.pages.now a.frames.now a.table.now a.word.now a.n c.in_err-a.was)
