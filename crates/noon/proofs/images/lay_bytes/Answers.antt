use mathlib.Core.Path.{refl}
use native.Mathlib.Omega.{arith}
use mathlib.Core.Bool.{false≢true}
use Rattle.noon.proofs.Steps.{next_laid}
use Rattle.noon.proofs.images.lay_bytes.Goals as goal

-- src/images.rt:49:9
pub fault_of-requires : goal.fault_of-requires
fault_of-requires c = let p = c.requires in record { k_bound = p.k_bound; size_bound = omega (arith, p.bytes_length); table_length = p.table_length; counts_length = p.counts_length }

-- src/images.rt:52:9
pub returns-in-Some : goal.returns-in-Some
returns-in-Some c = λ e. absurd (false≢true e)

-- src/images.rt:35:1
pub returns : goal.returns
returns c = λ e. let a = c.args in next_laid a.pages.now a.frames.now a.table.now a.counts.now a.sums.now a.memory.now _ _ _ a.bytes.now a.k c.wide-at.result _ _ c.wide-at.ensures refl c.lay_image-sum.ensures.memory_after c.lay_image-sum.ensures.value c.put_at.ensures c.put_at-2.ensures
