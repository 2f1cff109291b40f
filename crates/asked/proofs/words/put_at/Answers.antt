use Rattle.std.proofs.Common.{sym}
use lib.Seq.{set_out}
use Rattle.asked.proofs.words.put_at.Goals as goal

pub returns-then-place-list : goal.returns-then-place-list
returns-then-place-list c = rw (c.wide.ensures, c.wide-2.ensures)

pub returns-else-place-list : goal.returns-else-place-list
returns-else-place-list c = sym (set_out _ _ _ (simp (c.wide.ensures, c.wide-2.ensures) at c.if-place-list.false))
