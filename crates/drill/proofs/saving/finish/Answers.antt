use Rattle.std.proofs.Common.{[], ap}
use Rattle.house.specs.Turns.{World}
use Rattle.drill.proofs.Keeps.{finish_told}
use Rattle.drill.proofs.saving.finish.Goals as goal

pub returns : goal.returns
returns c = λ held.
    let e = rw (← c.none-none.ensures) at c.finish-answer.ensures held [] in
    (rw (← e) (ap (λ (w : World). w.house) (c.left-house.ensures [])), finish_told c.args.c _ _ _ _ e c.answer-end.ensures)
