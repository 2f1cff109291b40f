use native.Mathlib.Omega.{arith}
use mathlib.Core.Bool.{false≢true}
use Rattle.noon.proofs.images.lay_open.Goals as goal

-- src/images.rt:87:13
pub returns-then-not-at_end : goal.returns-then-not-at_end
returns-then-not-at_end c = λ e. absurd (false≢true e)

-- src/images.rt:90:5
pub lay_bytes-requires : goal.lay_bytes-requires
lay_bytes-requires c = let p = c.requires in record { listed = p.listed; k_bound = p.k_bound; bytes_length = omega (arith, c.read_full-n.ensures); table_length = p.table_length; counts_length = p.counts_length }
