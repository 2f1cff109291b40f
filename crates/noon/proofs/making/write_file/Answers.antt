use native.Mathlib.Omega.{arith}
use Rattle.housefile.specs.Records.{file}
use Rattle.noon.proofs.Refused.{night_runs}
use Rattle.noon.proofs.Steps.{counts}
use borrow.Author.Rules.{rules}
use Rattle.noon.proofs.making.write_file.Goals as goal

-- src/making.rt:104:66
pub slice_bounds-put_file-end : goal.slice_bounds-put_file-end
slice_bounds-put_file-end c = counts c.put_contents-n.result _ c.put_contents-n.ensures.upper_bound

-- src/making.rt:104:5
pub put_file-requires : goal.put_file-requires
put_file-requires c = let a = c.args in let p = c.requires in (record { given = p.given; laid = p.laid_all; runs = night_runs (file a.q a.run a.pages.now a.frames.now a.memory.now) (record { q = search rules; run = search rules; listed = p.listed; frames = λ i. omega (arith, c.type_inv.frames i); size = p.memory_length; memory = λ i. omega (arith, c.type_inv.memory i) }) p.night_runs }, c.put_contents-n.ensures.out_after)
