use borrow.Author.Rules.{rules}
use mathlib.Core.Path.{◌≡◌}
use lib.ListN.{length}
use Rattle.housefile.specs.Records.{file}
use Rattle.contents.proofs.Put.{all_put}
use Rattle.contents.proofs.put_contents.Goals as goal

-- src/lib.rt:63:1
pub returns : goal.returns
returns c = let a = c.args in let n : length a.out.now ≡ 73956 = search rules in let q = all_put (file a.q a.run a.pages.now a.frames.now a.memory.now) c.requires.listed n c.put_record-first.ensures c.put_lists-second.ensures c.put_frames-third.ensures c.put_front.ensures in record { out_after = q.0; upper_bound = q.1 }
