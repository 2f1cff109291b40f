use Rattle.processor.proofs.execute.branch.Goals as goal

pub returns-then-taken : goal.returns-then-taken
returns-then-taken c = simp (c.plain.ensures, c.if-taken.true)

pub returns : goal.returns
returns c = simp (c.plain-2.ensures, c.if-taken.false)
