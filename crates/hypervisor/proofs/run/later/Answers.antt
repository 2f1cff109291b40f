use Rattle.house.specs.Turns.{later_of}
use Rattle.hypervisor.proofs.run.later.Goals as goal

pub returns-then-alone : goal.returns-then-alone
unfolding later_of
returns-then-alone c = simp (c.if-alone.true, c.remains.ensures)

pub turn-requires : goal.turn-requires
turn-requires c = let p = c.requires in record { n_bound = p.n_bound; current_bound = p.current_bound; made_bound = p.made_bound c.if-alone.false }

pub returns : goal.returns
unfolding later_of
returns c = simp (c.if-alone.false, c.turn.ensures)
