use native.Mathlib.Omega.{arith}
use borrow.Author.Rules.{rules}
use Rattle.night_run.proofs.Pieces.{counts_within, read_none, none_brought, read_long, long_brought, read_some, some_brought}
use Rattle.night_run.proofs.input.after_read.Goals as goal

pub returns-then-n-eq0 : goal.returns-then-n-eq0
returns-then-n-eq0 c = let counts = counts_within _ _ c.count-n.ensures c.requires in record { taken_value = read_none _ _ _ _ counts c.count-n.ensures _ _ c.if-n-eq0.true c.failed.ensures c.over-taken.ensures; buffer_value = none_brought _ _ _ _ counts c.count-n.ensures c.if-n-eq0.true; prefix_len = search rules; bytes = λ i. omega (arith, c.type_inv.buffer i); bytes_bound = search rules }

pub returns-then-size-so_far : goal.returns-then-size-so_far
returns-then-size-so_far c = let counts = counts_within _ _ c.count-n.ensures c.requires in record { taken_value = read_long _ _ _ _ counts c.count-n.ensures c.if-n-eq0.false _ (omega (arith, c.if-size-so_far.true)) c.over-taken-then-size-so_far.ensures; buffer_value = long_brought _ _ _ _ counts c.count-n.ensures c.if-n-eq0.false (omega (arith, c.if-size-so_far.true)); prefix_len = search rules; bytes = λ i. omega (arith, c.type_inv.buffer i); bytes_bound = search rules }

pub returns : goal.returns
returns c = let counts = counts_within _ _ c.count-n.ensures c.requires in record { taken_value = read_some _ _ _ _ counts c.count-n.ensures c.if-n-eq0.false (omega (arith, c.if-n-eq0.false, c.if-size-so_far.false)); buffer_value = some_brought _ _ _ _ counts c.count-n.ensures c.if-n-eq0.false (omega (arith, c.if-n-eq0.false, c.if-size-so_far.false)); prefix_len = counts; bytes = λ i. omega (arith, c.type_inv.buffer i); bytes_bound = search rules }
