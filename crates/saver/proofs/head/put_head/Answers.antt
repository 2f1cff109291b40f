use mathlib.Core.Path.{◌≡◌}
use lib.ListN.{length}
use Rattle.saver.proofs.Pieces.{head_put}
use borrow.Author.Rules.{rules}
use Rattle.saver.proofs.head.put_head.Goals as goal

-- src/head.rt:187:1
pub returns : goal.returns
returns c = let n : length c.args.out.now ≡ 10934 = search (rules, c.put_record-arg-1) in head_put c.args.house c.requires.few n c.put_record-first.ensures c.put_guests-second.ensures c.put_queues.ensures
