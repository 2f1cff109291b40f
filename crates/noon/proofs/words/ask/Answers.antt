use Rattle.noon.proofs.Steps.{asks_on, asks_none}
use Rattle.noon.proofs.words.ask.Goals as goal

pub loop-i-init : goal.loop-i-init
loop-i-init c = let p = c.requires in asks_none _ _ _ p.pages_zeros p.frames_zeros p.table_zeros

pub loop-i-preserved : goal.loop-i-preserved
loop-i-preserved c = asks_on c.loop-i.a c.in_ok-a.a _ _ _ _ _ _ c.loop-i.i c.loop-i.invariant c.in_ok-a.ensures
