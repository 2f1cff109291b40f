use Rattle.restore.proofs.reading.begin.Goals as goal

-- src/reading.rt:24:1
pub returns : goal.returns
returns c = λ held m. rw c.none-house.ensures
