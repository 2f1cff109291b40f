use borrow.Author.Tests.{lt-ltb, le-ltb, lt-leb, le-leb}
use Rattle.tickets.specs.Queues.{sending}
use Rattle.tickets.proofs.send.Goals as goal

-- src/lib.rt:30:9
pub returns-then-to-count : goal.returns-then-to-count
unfolding sending
returns-then-to-count c = simp (le-leb _ _ c.if-to-count.true, le-ltb _ _ c.if-to-count.true)

-- src/lib.rt:35:9
pub returns-then-n-ge32 : goal.returns-then-n-ge32
unfolding sending
returns-then-n-ge32 c = simp (c.wide-j.ensures, le-leb _ _ (simp c.wide-j.ensures at c.if-n-ge32.true), le-ltb _ _ (simp c.wide-j.ensures at c.if-n-ge32.true), lt-ltb _ _ c.if-to-count.false, lt-leb _ _ c.if-to-count.false)

-- src/lib.rt:25:1
pub returns : goal.returns
unfolding sending
returns c = simp (c.wide.ensures, c.wide-j.ensures, lt-ltb _ _ (simp c.wide-j.ensures at c.if-n-ge32.false), lt-leb _ _ (simp c.wide-j.ensures at c.if-n-ge32.false), lt-ltb _ _ c.if-to-count.false, lt-leb _ _ c.if-to-count.false)
