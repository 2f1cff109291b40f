use Rattle.saver.proofs.Heads.{queue_there}
use Rattle.saver.proofs.head.put_queue_at.Goals as goal

-- src/head.rt:139:1
pub returns : goal.returns
returns c = queue_there c.args.n _ c.args.k c.args.tickets.now c.wide.ensures c.requires.n_bound c.requires.k_bound c.requires.tickets_length c.put_record.ensures
