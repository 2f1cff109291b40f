use Rattle.laying.proofs.beyond.Goals as goal

-- src/lib.rt:194:1
pub returns : goal.returns
returns c = rw (c.wide.ensures, c.wide-2.ensures)
