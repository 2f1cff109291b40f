use Rattle.std.proofs.Common.{sym, ◌∙◌, arith}
use Rattle.house.proofs.Damage.Undamaged.{count_within}
use Rattle.hypervisor.proofs.calls.check_read.Goals as goal

pub pages_of-requires : goal.pages_of-requires
pages_of-requires c = omega (arith, c.if-i-h.false, (count_within c.args.h (sym c.damaged.ensures ∙ c.if-damaged.false)).1)
